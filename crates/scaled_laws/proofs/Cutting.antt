-- The cut by a row whose numbers stand over one denominator.
use Rattle.scaled_laws.proofs.Words.{◌≡◌, ◌∙◌, refl, ap, sym, ℕ, zero, suc, ◌+◌, ◌-◌, ◌<◌, ◌≤◌, ℤ, pos, negsuc, ◌*ℤ◌, ◌≤ℤ◌, ◌<ℤ◌, neg_ℤ, unsigned_abs, arith, nat_lt, Bool, true, false, List, [], ◌∷◌, length, take, drop, map, length-drop, All, ints, get_or-take, get_or-drop, get_or_default, length-take-le, floor_mod, entry, scale, negate, residue, Row, divided, var, num, ◌⊗◌, ring, length_map, row_by, same_row, same_entries, Undivided, undivided, divided-multiple, entry_first, length_counted, row_over, row_size, above, minus_one, get_or-map, floor_mod_is}
use Rattle.pip_model.specs.Cuts.{constant_cut}
use Rattle.scaled_laws.specs.Cut.{left_of, cut_numbers}
use Rattle.scaled_laws.proofs.Scaled.{mod_over, den_positive}

opposite : (g x : ℤ) → neg_ℤ (g *ℤ x) ≡ g *ℤ neg_ℤ x
opposite g x = sym (minus_one (g *ℤ x)) ∙ ring (g ∷ x ∷ []) (num (negsuc 0) ⊗ (var 0 ⊗ var 1)) (var 0 ⊗ (num (negsuc 0) ⊗ var 1)) refl ∙ ap (λ (z : ℤ). g *ℤ z) (minus_one x)

module _ (g : ℕ) (d : ℤ) (some : 0 < g) (above : pos 0 <ℤ d) where
  parts_over : (xs : List ℤ) → map (λ x. floor_mod x (pos g *ℤ d)) (scale (pos g) xs) ≡ scale (pos g) (map (λ x. floor_mod x d) xs)
  parts_over [] = refl
  parts_over (x ∷ xs) = rw (mod_over g x d some above, parts_over xs) refl

  residue_over : (xs : List ℤ) → negate (residue (pos g *ℤ d) (scale (pos g) xs)) ≡ scale (pos g) (negate (residue d xs))
  residue_over [] = refl
  residue_over (x ∷ xs) = rw (opposite (pos g) x, mod_over g (neg_ℤ x) d some above, opposite (pos g) (floor_mod (neg_ℤ x) d), residue_over xs) refl

module _ (n : ℕ) (l : ℤ) (zs : List ℤ) (h : pos 1 ≤ℤ l) where
  abbrev D : Row
  D = divided (row_over n l zs)

  u : Undivided (row_over n l zs)
  u = undivided (row_over n l zs) h

  den_is : pos u.by *ℤ D.den ≡ l
  den_is = ap (λ (s : Row). s.den) u.is

  abbrev before : Row
  before = row_by D.den (map (λ x. floor_mod x D.den) D.coefs) (negate (residue D.den D.constant))

  parts : map (λ x. floor_mod x l) (take n zs) ≡ scale (pos u.by) before.coefs
  parts = ap (λ (s : Row). map (λ x. floor_mod x s.den) s.coefs) (sym u.is) ∙ parts_over u.by D.den u.positive (den_positive n l zs h) D.coefs

  places : negate (residue l (drop n zs)) ≡ scale (pos u.by) before.constant
  places = ap (λ (s : Row). negate (residue s.den s.constant)) (sym u.is) ∙ residue_over u.by D.den u.positive (den_positive n l zs h) D.constant

  at_least : pos 1 ≤ℤ D.den
  at_least = omega (arith, ints, den_positive n l zs h)

  cut_over : divided (row_by l (map (λ x. floor_mod x l) (take n zs)) (negate (residue l (drop n zs)))) ≡ constant_cut D
  cut_over = ap divided (same_row (sym den_is) parts places) ∙ divided-multiple u.by before u.positive at_least

-- ---- what a quotient leaves

left_bound : (l : ℤ) (b : Bool) (z : ℤ) → pos 1 ≤ℤ l → unsigned_abs (left_of l b z) ≤ unsigned_abs l
left_bound (pos d) true z h = let m = floor_mod_is z d (omega (arith, ints, h)) in omega (arith, ints, m.0, m.1)
left_bound (pos d) false z h = let m = floor_mod_is (neg_ℤ z) d (omega (arith, ints, h)) in omega (arith, ints, m.0, m.1)
left_bound (negsuc d) b z h = absurd (omega (arith, ints, h))

pub cut_within : (n : ℕ) (l : ℤ) (m : ℕ) (xs : List ℤ) → pos 1 ≤ℤ l → unsigned_abs l ≤ m → All (λ z. unsigned_abs z ≤ m) (cut_numbers n l xs)
cut_within n l m xs h le = λ k d lt.
    let inside : k < length xs = omega (arith, lt, length_counted (λ k. left_of l (nat_lt k n) (entry xs k)) (length xs)) in
    rw (get_or_default (cut_numbers n l xs) k d (pos 0) lt, entry_first (λ k. left_of l (nat_lt k n) (entry xs k)) (length xs) k inside)
    (omega (arith, left_bound l (nat_lt k n) (entry xs k) h, le))

cut_long : (n : ℕ) (l : ℤ) (xs : List ℤ) → length (cut_numbers n l xs) ≡ length xs
cut_long n l xs = length_counted (λ k. left_of l (nat_lt k n) (entry xs k)) (length xs)

-- ---- the row of these numbers

behind : (n k : ℕ) → nat_lt (n + k) n ≡ false
behind n k = grind arith

module _ (n w : ℕ) (l : ℤ) (xs : List ℤ) (h : pos 1 ≤ℤ l) (long : length xs ≡ row_size n w) where
  number : (k : ℕ) → k < row_size n w → entry (cut_numbers n l xs) k ≡ left_of l (nat_lt k n) (entry xs k)
  number k lt = entry_first (λ k. left_of l (nat_lt k n) (entry xs k)) (length xs) k (omega (arith, lt, long))

  whole : length (cut_numbers n l xs) ≡ row_size n w
  whole = cut_long n l xs ∙ long

  front : take n (cut_numbers n l xs) ≡ map (λ x. floor_mod x l) (take n xs)
  front = same_entries (take n (cut_numbers n l xs)) (map (λ x. floor_mod x l) (take n xs))
      (length-take-le n (cut_numbers n l xs) (omega (arith, whole)) ∙ sym (length_map (λ x. floor_mod x l) (take n xs) ∙ length-take-le n xs (omega (arith, long))))
      (λ k lt.
      let small : k < n = omega (arith, lt, length-take-le n (cut_numbers n l xs) (omega (arith, whole))) in
      get_or-take n (cut_numbers n l xs) k (pos 0) small ∙ number k (omega (arith, small))
      ∙ ap (λ b. left_of l b (entry xs k)) (above k n small)
      ∙ ap (λ z. floor_mod z l) (sym (get_or-take n xs k (pos 0) small))
      ∙ sym (get_or-map (λ x. floor_mod x l) (take n xs) k (pos 0) (pos 0) (omega (arith, small, length-take-le n xs (omega (arith, long))))))

  residue_entry : (ys : List ℤ) (k : ℕ) → k < length ys → entry (negate (residue l ys)) k ≡ neg_ℤ (floor_mod (neg_ℤ (entry ys k)) l)
  residue_entry [] k lt = absurd (omega arith)
  residue_entry (y ∷ ys) zero lt = refl
  residue_entry (y ∷ ys) (suc k) lt = residue_entry ys k (omega arith)

  residue_long : (ys : List ℤ) → length (negate (residue l ys)) ≡ length ys
  residue_long [] = refl
  residue_long (y ∷ ys) = ap suc (residue_long ys)

  back : drop n (cut_numbers n l xs) ≡ negate (residue l (drop n xs))
  back = same_entries (drop n (cut_numbers n l xs)) (negate (residue l (drop n xs)))
      (length-drop n (cut_numbers n l xs) ∙ ap (λ j. j - n) (cut_long n l xs) ∙ sym (residue_long (drop n xs) ∙ length-drop n xs))
      (λ k lt.
      let small : k < w + 1 = let e = length-drop n (cut_numbers n l xs) in omega (arith, lt, e, whole) in
      get_or-drop n (cut_numbers n l xs) k (pos 0) ∙ number (n + k) (omega (arith, small))
      ∙ ap (λ b. left_of l b (entry xs (n + k))) (behind n k)
      ∙ ap (λ z. neg_ℤ (floor_mod (neg_ℤ z) l)) (sym (get_or-drop n xs k (pos 0)))
      ∙ sym (residue_entry (drop n xs) k (let e = length-drop n xs in omega (arith, small, e, long))))

  pub cut_made : divided (row_over n l (cut_numbers n l xs)) ≡ constant_cut (divided (row_over n l xs))
  cut_made = ap divided (same_row refl front back) ∙ cut_over n l xs h
