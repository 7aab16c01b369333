-- A row with another put in, in place.
use Rattle.row_laws.proofs.Words.{◌≡◌, refl, ap, sym, subst, ◌∙◌, ℕ, ◌+◌, ◌^◌, ◌<◌, ◌≤◌, ℤ, pos, ◌-ℤ◌, ◌*ℤ◌, ◌&&◌, Bool, true, List, [], ◌∷◌, ◌++◌, length, take, drop, get_or, set, append_assoc, arith, unsigned_abs, IsTrue, All, slice_set, list_all, ltb-true, lt-ltb, drop_more, take_more, set_at, get_or_at, length-take, take_all, drop_all, append-nil, length-combine, both, fits, combine, remove, all_fit, combine_listed, product_fits, short_fits, Fits, listed_at, is_short, ints}
use Rattle.row_laws.proofs.Places.{listed_but, remove_parts, set_combine}
use Rattle.row_laws.proofs.Unchanged.{set-same}

pub short_bound : (z : ℤ) → IsTrue (is_short z) → unsigned_abs z < 2 ^ 63
short_bound z e = ltb-true (unsigned_abs z) (2 ^ 63) e

short_three : (a x b y : ℤ) → IsTrue (is_short a) → IsTrue (is_short x) → IsTrue (is_short b) → IsTrue (is_short y)
    → Fits (a *ℤ x) × Fits (b *ℤ y) × Fits (a *ℤ x -ℤ b *ℤ y)
short_three a x b y ha hx hb hy =
    let pa = product_fits a x (short_bound a ha) (short_bound x hx) in
    let pb = product_fits b y (short_bound b hb) (short_bound y hy) in (
      short_fits a x (short_bound a ha) (short_bound x hx),
      short_fits b y (short_bound b hb) (short_bound y hy),
      lt-ltb (unsigned_abs (a *ℤ x -ℤ b *ℤ y)) (2 ^ 127) (grind arith),
    )

-- short numbers make numbers that fit
pub short_listed : (a b : ℤ) (r s : List ℤ) → IsTrue (is_short a) → IsTrue (is_short b) → IsTrue (list_all is_short r) → IsTrue (list_all is_short s)
    → IsTrue (all_fit (combine_listed a r b s))
short_listed a b [] s ha hb hr hs = refl
short_listed a b (x ∷ r) [] ha hb hr hs = refl
short_listed a b (x ∷ r) (y ∷ s) ha hb hr hs =
    let rs = both (is_short x) (list_all is_short r) hr in
    let ss = both (is_short y) (list_all is_short s) hs in
    let three = short_three a x b y ha rs.0 hb ss.0 in
    rw (three.0, three.1, three.2, short_listed a b r s ha hb rs.1 ss.1) refl

-- ---- in place, entry by entry

-- a*r - b*s up to place i, and r from there on
abbrev pub combined : ℤ → List ℤ → ℤ → List ℤ → ℕ → List ℤ
combined a r b s i = combine a (take i r) b (take i s) ++ drop i r

combine_append : (a b : ℤ) (r s more rest : List ℤ) → length r ≡ length s → combine a (r ++ more) b (s ++ rest) ≡ combine a r b s ++ combine a more b rest
combine_append a b [] [] more rest e = refl
combine_append a b (x ∷ r) (y ∷ s) more rest e = rw (combine_append a b r s more rest (omega arith)) refl
combine_append a b _ _ more rest e = absurd (omega arith)

module _ (a b : ℤ) (r s : List ℤ) (same : length r ≡ length s) (i : ℕ) (h : i < length r) where
  front_lengths : length (take i r) ≡ length (take i s)
  front_lengths = simp length-take (omega arith)

  front_length : length (combine a (take i r) b (take i s)) ≡ i
  front_length = length-combine a (take i r) b (take i s) front_lengths ∙ simp length-take (omega arith)

  combined_read : get_or (combined a r b s i) i (pos 0) ≡ get_or r i (pos 0)
  combined_read = rw (drop_more r i (pos 0) h) (get_or_at (combine a (take i r) b (take i s)) (get_or r i (pos 0)) (drop (i + 1) r) (pos 0) i front_length)

  -- a fact of the entry that is still as it was
  pub kept_at : (P : ℤ → Type 0) (now : List ℤ) → now ≡ combined a r b s i → All P r → P (get_or now i (pos 0))
  kept_at P now e all = subst P (sym (ap (λ (xs : List ℤ). get_or xs i (pos 0)) e ∙ combined_read)) (all i (pos 0) h)

  pub combine_more : combine a (take (i + 1) r) b (take (i + 1) s) ≡ combine a (take i r) b (take i s) ++ (a *ℤ get_or r i (pos 0) -ℤ b *ℤ get_or s i (pos 0)) ∷ []
  combine_more =
      rw (take_more r i (pos 0) h, take_more s i (pos 0) (omega arith))
      (combine_append a b (take i r) (take i s) (get_or r i (pos 0) ∷ []) (get_or s i (pos 0) ∷ []) front_lengths)

  pub combined_step : (now : List ℤ) (z : ℤ) → now ≡ combined a r b s i → z ≡ a *ℤ get_or now i (pos 0) -ℤ b *ℤ get_or s i (pos 0)
      → set now i z ≡ combined a r b s (i + 1)
  combined_step now z e g =
      let read : get_or now i (pos 0) ≡ get_or r i (pos 0) = rw e combined_read in
      let front = combine a (take i r) b (take i s) in
      rw ((g ∙ ap (λ x. a *ℤ x -ℤ b *ℤ get_or s i (pos 0)) read), e, combine_more)
      (ap (λ (xs : List ℤ). set (front ++ xs) i (a *ℤ get_or r i (pos 0) -ℤ b *ℤ get_or s i (pos 0))) (drop_more r i (pos 0) h)
      ∙ set_at front (get_or r i (pos 0)) (drop (i + 1) r) (a *ℤ get_or r i (pos 0) -ℤ b *ℤ get_or s i (pos 0)) i front_length
      ∙ sym (append_assoc front ((a *ℤ get_or r i (pos 0) -ℤ b *ℤ get_or s i (pos 0)) ∷ []) (drop (i + 1) r)))

  -- under an a of 1 an entry stays at which s is 0
  pub kept_step : (now : List ℤ) → now ≡ combined a r b s i → a ≡ pos 1 → get_or s i (pos 0) ≡ pos 0 → now ≡ combined a r b s (i + 1)
  kept_step now e one none =
      sym (set-same now i (get_or now i (pos 0)) refl)
      ∙ combined_step now (get_or now i (pos 0)) e (rw (one, none) (once (get_or now i (pos 0)) b))
    where
      once : (x y : ℤ) → x ≡ pos 1 *ℤ x -ℤ y *ℤ pos 0
      once x y = omega (arith, ints)

  listed_both : IsTrue (all_fit (combine_listed a (drop i r) b (drop i s)))
      → IsTrue (all_fit (listed_at a (get_or r i (pos 0)) b (get_or s i (pos 0)))) × IsTrue (all_fit (combine_listed a (drop (i + 1) r) b (drop (i + 1) s)))
  listed_both e =
      split (fits (a *ℤ get_or r i (pos 0))) (fits (b *ℤ get_or s i (pos 0))) (fits (a *ℤ get_or r i (pos 0) -ℤ b *ℤ get_or s i (pos 0))) (all_fit (combine_listed a (drop (i + 1) r) b (drop (i + 1) s)))
      (rw (drop_more r i (pos 0) h, drop_more s i (pos 0) (omega arith)) at e)
    where
      split : (p q d t : Bool) → IsTrue (p && (q && (d && t))) → IsTrue (p && (q && (d && true))) × IsTrue t
      split true true true t e = (refl, e)
      split _ _ _ t e = absurd cc

  -- the numbers of this entry fit, and those behind it
  pub listed_now : (now : List ℤ) → now ≡ combined a r b s i → IsTrue (all_fit (combine_listed a (drop i r) b (drop i s)))
      → IsTrue (all_fit (listed_at a (get_or now i (pos 0)) b (get_or s i (pos 0))))
  listed_now now e k =
      let read : get_or now i (pos 0) ≡ get_or r i (pos 0) = rw e combined_read in
      rw read (listed_both k).0

  pub listed_behind : IsTrue (all_fit (combine_listed a (drop i r) b (drop i s))) → IsTrue (all_fit (combine_listed a (drop (i + 1) r) b (drop (i + 1) s)))
  listed_behind k = (listed_both k).1

pub combined_all : (a b : ℤ) (r s : List ℤ) (i : ℕ) → length r ≡ length s → length r ≤ i → combined a r b s i ≡ combine a r b s
combined_all a b r s i same h = rw (take_all i r h, take_all i s (omega arith), drop_all i r h) (append-nil (combine a r b s))

-- the numbers in front of a place and behind it
pub listed_sides : (a b : ℤ) (r s : List ℤ) (c : ℕ) → length r ≡ length s → IsTrue (all_fit (combine_listed a (remove c r) b (remove c s)))
    → IsTrue (all_fit (combine_listed a (take c r) b (take c s))) × IsTrue (all_fit (combine_listed a (drop (c + 1) r) b (drop (c + 1) s)))
listed_sides a b r s c same e =
    both (all_fit (combine_listed a (take c r) b (take c s))) (all_fit (combine_listed a (drop (c + 1) r) b (drop (c + 1) s)))
    (rw (sym (listed_but a b r s c same), sym (remove_parts c r), sym (remove_parts c s)) e)

-- a list that is made in front of a place, at it and behind it
pub set_sides : (a b e z : ℤ) (r s : List ℤ) (c : ℕ) (front at back : List ℤ) → length r ≡ length s → c < length s → length at ≡ 1
    → front ≡ combine a (take c r) b (take c s) → back ≡ combine a (drop (c + 1) r) b (drop (c + 1) s) → e ≡ z
    → front ++ (slice_set at 0 e ++ back) ≡ slice_set (combine a r b s) c z
set_sides a b e z r s c front (x ∷ []) back same h one f g k = rw (f, g, k) (set_combine a b z r s c same h)
set_sides a b e z r s c front _ back same h one f g k = absurd (omega arith)
