-- Forms that are made of others: their lengths, entries and products.
use Rattle.pip_model.proofs.Words.{◌≡◌, ◌∙◌, refl, ap, sym, ℕ, zero, suc, ◌+◌, ◌-◌, ◌<◌, ◌≤◌, ℤ, pos, ◌+ℤ◌, ◌-ℤ◌, ◌*ℤ◌, neg_ℤ, arith, Bool, true, false, List, [], ◌∷◌, ◌++◌, length, append-nil, length-append, eqb-true, ltb-true, ltb-false, ints, length-map, length-replicate, length-take, get_or-take, take, replicate, nat_lt, dot, width, entry, coefficients, constant, add, negate, plus, opposite, scale, combine, constant_form, widen_to, is_whole, count_from, is_form}
use Rattle.std.proofs.Math.ListN.{get_or-append, get_or-map}
use Rattle.pip_model.proofs.RingLaws.{one-*ℤ}
use Rattle.pip_model.proofs.Division.{form-parts}

-- ---- lengths

pub length-form : (w : ℕ) (c : List ℤ) → is_form w c ≡ true → length c ≡ w + 1
length-form w c h = eqb-true (length c) (w + 1) h

pub length-combine : (a : ℤ) (us : List ℤ) (b : ℤ) (vs : List ℤ) → length us ≡ length vs → length (combine a us b vs) ≡ length us
length-combine a [] b vs e = refl
length-combine a (u ∷ us) b [] e = absurd (omega arith)
length-combine a (u ∷ us) b (v ∷ vs) e = omega (arith, length-combine a us b vs (omega arith))

pub length-add : (r s : List ℤ) → length r ≡ length s → length (add r s) ≡ length r
length-add [] s e = refl
length-add (x ∷ r) [] e = absurd (omega arith)
length-add (x ∷ r) (y ∷ s) e = ap suc (length-add r s (omega arith))

pub length-plus : (c : List ℤ) (z : ℤ) → 1 ≤ length c → length (plus c z) ≡ length c
length-plus c z h = length-add c (constant_form (width c) z) (simp (length-append, length-replicate) (omega arith))

pub length-opposite : (c : List ℤ) → 1 ≤ length c → length (opposite c) ≡ length c
length-opposite c h = let same : length (negate c) ≡ length c = simp length-map refl in length-plus (negate c) (neg_ℤ (pos 1)) (omega (arith, same)) ∙ same

pub length-count : (i n : ℕ) → length (count_from i n) ≡ n
length-count i zero = refl
length-count i (suc n) = ap suc (length-count (i + 1) n)

-- ---- entries

pub entry-zeros : (n k : ℕ) → entry (replicate n (pos 0)) k ≡ pos 0
entry-zeros (suc n) (suc k) = entry-zeros n k
entry-zeros _ _ = refl

pub entry-negate : (c : List ℤ) (k : ℕ) → entry (negate c) k ≡ neg_ℤ (entry c k)
entry-negate c k = get_or-map neg_ℤ c k (pos 0)

entry-plus : (c : List ℤ) (n : ℕ) (z : ℤ) → length c ≡ suc n → entry (add c (replicate n (pos 0) ++ z ∷ [])) n ≡ entry c n +ℤ z
entry-plus (x ∷ []) zero z e = refl
entry-plus (x ∷ c) (suc n) z e = entry-plus c n z (omega arith)
entry-plus _ _ z e = absurd (omega arith)

-- the constant of a form plus a number
pub constant-plus : (c : List ℤ) (z : ℤ) → 1 ≤ length c → constant (plus c z) ≡ constant c +ℤ z
constant-plus c z some = ap (entry (plus c z)) (omega (arith, length-plus c z some)) ∙ entry-plus c (width c) z (omega arith)

pub entry-combine : (a : ℤ) (us : List ℤ) (b : ℤ) (vs : List ℤ) (k : ℕ) → length us ≡ length vs
    → entry (combine a us b vs) k ≡ a *ℤ entry us k -ℤ b *ℤ entry vs k
entry-combine a [] b [] k e = omega (arith, ints)
entry-combine a (x ∷ us) b (y ∷ vs) zero e = refl
entry-combine a (x ∷ us) b (y ∷ vs) (suc k) e = entry-combine a us b vs k (omega arith)
entry-combine a _ b _ k e = absurd (omega arith)

pub entry-scale : (g : ℤ) (xs : List ℤ) (k : ℕ) → entry (scale g xs) k ≡ g *ℤ entry xs k
entry-scale g [] k = omega (arith, ints)
entry-scale g (x ∷ xs) zero = refl
entry-scale g (x ∷ xs) (suc k) = entry-scale g xs k

-- ---- the same form

pub scale_one : (xs : List ℤ) → scale (pos 1) xs ≡ xs
scale_one [] = refl
scale_one (x ∷ xs) = rw (one-*ℤ x, scale_one xs) refl

-- a form over its own width
pub widen_same : (n : ℕ) (c : List ℤ) → length c ≡ n + 1 → widen_to n c ≡ c
widen_same n c e =
    let parts = form-parts n c (omega (arith, e)) in
    let none : n - width c ≡ 0 = omega (arith, e) in
    rw none (ap (λ (xs : List ℤ). xs ++ constant c ∷ []) (append-nil (coefficients c)) ∙ sym parts.0)

pub length-coefficients : (c : List ℤ) → length (coefficients c) ≡ width c
length-coefficients c = simp length-take (omega arith)

-- ---- a form over a wider scope

-- zeros behind a list
pub entry-padded : (n : ℕ) (xs : List ℤ) (k : ℕ) → length xs ≤ k → entry (xs ++ replicate n (pos 0)) k ≡ pos 0
entry-padded n [] k h = entry-zeros n k
entry-padded n (x ∷ xs) zero h = absurd (omega arith)
entry-padded n (x ∷ xs) (suc k) h = entry-padded n xs k (omega arith)

module _ (w : ℕ) (c : List ℤ) (within : width c ≤ w) where
  abbrev places : List ℤ
  places = coefficients c ++ replicate (w - width c) (pos 0)

  length-places : length places ≡ w
  length-places = simp (length-append, length-replicate, length-coefficients) (omega arith)

  pub length-widened : length (widen_to w c) ≡ w + 1
  length-widened = length-append places (constant c ∷ []) ∙ ap (λ (n : ℕ). n + 1) length-places

  -- at a place that the form has not, or at which it is 0
  pub entry-widened : (q : ℕ) → q < w → (q < width c → entry c q ≡ pos 0) → entry (widen_to w c) q ≡ pos 0
  entry-widened q lt free = get_or-append places (constant c ∷ []) (pos 0) q (omega (arith, lt, length-places)) ∙ by (nat_lt q (width c)) refl
    where
      by : (t : Bool) → nat_lt q (width c) ≡ t → entry places q ≡ pos 0
      by true e =
          let less : q < width c = ltb-true q (width c) e in
          get_or-append (coefficients c) (replicate (w - width c) (pos 0)) (pos 0) q (omega (arith, less, length-coefficients c))
          ∙ get_or-take (width c) c q (pos 0) less ∙ free less
      by false e = entry-padded (w - width c) (coefficients c) q (omega (arith, ltb-false q (width c) e, length-coefficients c))

-- ---- products

pub dot-take : (c u : List ℤ) → dot (take (length u) c) u ≡ dot c u
dot-take [] [] = refl
dot-take [] (y ∷ u) = refl
dot-take (x ∷ c) [] = refl
dot-take (x ∷ c) (y ∷ u) = ap (λ (k : ℤ). x *ℤ y +ℤ k) (dot-take c u)

-- a constant has no coefficient that a divisor does not divide
pub no_coefficients : (d : ℤ) (c : List ℤ) → length c ≡ 1 → is_whole d (coefficients c) ≡ true
no_coefficients d (x ∷ y ∷ c) e = absurd (omega arith)
no_coefficients d _ e = refl
