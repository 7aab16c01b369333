-- Two quotients are one key exactly where their divisors are equal, and their forms over the wider scope.
use Rattle.new_parameters.proofs.Words.{◌≡◌, ℕ, ◌+◌, ◌-◌, ◌≤◌, ℤ, pos, negsuc, Bool, true, ◌&&◌, List, [], ◌∷◌, ◌++◌, length, replicate, refl, ap, sym, ◌∙◌, arith, append_assoc, length-append, eqb, max, unsigned_abs, int_eq, Decides-int_eq, Decides-eqb, Decides-and, length-replicate, replicate-append-replicate, same_from_push, width, coefficients, constant, same_form, widen_to, Quotient, same_quotient, trimmed, is_same_key, length-coefficients}
use Rattle.std.specs.Bool.{Decides, one_answer}
use Rattle.std.specs.Cmp.Rules.{signed_items}
use Rattle.std.specs.Cmp.Lexicographic.{pointwise}
use Rattle.pip_model.specs.Numbers.{same_number}
use Rattle.new_parameters.proofs.Trimming.{padded, trimmed-padded, trimmed_is}

-- ---- tests that decide

decides_other : {P Q : Type 0} (a : Bool) → Decides a P → (P → Q) → (Q → P) → Decides a Q
decides_other a p f g = (λ e. f (p.0 e), λ h. p.1 (g h))

decides_number : (x y : ℤ) → Decides (same_number x y) (x ≡ y)
decides_number (pos a) (pos b) = decides_other (eqb a b) (Decides-eqb a b) (λ e. ap pos e) (λ e. ap unsigned_abs e)
decides_number (negsuc a) (negsuc b) = decides_other (eqb a b) (Decides-eqb a b) (λ e. ap negsuc e) (λ e. omega (arith, ap unsigned_abs e))
decides_number _ _ = (λ e. absurd cc, λ e. absurd cc)

decides_form : (xs ys : List ℤ) → Decides (same_form xs ys) (xs ≡ ys)
decides_form [] [] = (λ e. refl, λ e. refl)
decides_form (x ∷ xs) (y ∷ ys) =
    decides_other (same_number x y && same_form xs ys) (Decides-and (same_number x y) (same_form xs ys) (decides_number x y) (decides_form xs ys))
    (λ h. cc) (λ e. (cc, cc))
decides_form _ _ = (λ e. absurd cc, λ e. absurd cc)

-- ---- forms over a wider scope

-- the coefficients over w places are the trimmed ones and zeros
spread : (w : ℕ) (xs ts : List ℤ) (n : ℕ) → xs ≡ padded n ts → length xs ≤ w → padded (w - length xs) xs ≡ padded (w - length ts) ts
spread w xs ts n e le =
    let long : length xs ≡ length ts + n = ap length e ∙ (simp (length-append, length-replicate) refl) in
    let m : n + (w - length xs) ≡ w - length ts = omega (arith, long, le) in
    ap (padded (w - length xs)) e
    ∙ append_assoc ts (replicate n (pos 0)) (replicate (w - length xs) (pos 0))
    ∙ ap (λ (zs : List ℤ). ts ++ zs) (replicate-append-replicate n (w - length xs) (pos 0))
    ∙ ap (λ (k : ℕ). padded k ts) m

coefficients_spread : (w : ℕ) (c : List ℤ) → width c ≤ w → padded (w - width c) (coefficients c) ≡ padded (w - length (trimmed (coefficients c))) (trimmed (coefficients c))
coefficients_spread w c le =
    let long = length-coefficients c in
    let is = trimmed_is (coefficients c) in
    ap (λ (n : ℕ). padded (w - n) (coefficients c)) (sym long) ∙ spread w (coefficients c) (trimmed (coefficients c)) is.0 is.1 (omega (arith, long, le))

-- the forms are equal over w places exactly where their trimmed coefficients and constants are
wide_forms : (w : ℕ) (c d : List ℤ) → width c ≤ w → width d ≤ w
    → Decides (same_form (widen_to w c) (widen_to w d)) ((trimmed (coefficients c) ≡ trimmed (coefficients d)) × (constant c ≡ constant d))
wide_forms w c d p q = decides_other (same_form (widen_to w c) (widen_to w d)) (decides_form (widen_to w c) (widen_to w d)) apart together
  where
    apart : widen_to w c ≡ widen_to w d → (trimmed (coefficients c) ≡ trimmed (coefficients d)) × (constant c ≡ constant d)
    apart e =
        let parts = same_from_push (padded (w - width c) (coefficients c)) (padded (w - width d) (coefficients d)) (constant c) (constant d) e in
        (sym (trimmed-padded (w - width c) (coefficients c)) ∙ ap trimmed parts.0 ∙ trimmed-padded (w - width d) (coefficients d), parts.1)

    together : (trimmed (coefficients c) ≡ trimmed (coefficients d)) × (constant c ≡ constant d) → widen_to w c ≡ widen_to w d
    together h =
        let fronts : padded (w - width c) (coefficients c) ≡ padded (w - width d) (coefficients d) =
        coefficients_spread w c p ∙ ap (λ (ts : List ℤ). padded (w - length ts) ts) h.0 ∙ sym (coefficients_spread w d q) in
        λ i. fronts i ++ h.1 i ∷ []

-- ---- the two tests

abbrev pub SameKey : Quotient → Quotient → Type 0
SameKey k l = (trimmed (coefficients k.form) ≡ trimmed (coefficients l.form)) × ((constant k.form ≡ constant l.form) × (k.den ≡ l.den))

decides_key : (k l : Quotient) → Decides (is_same_key k l) (SameKey k l)
decides_key k l =
    Decides-and (pointwise int_eq (trimmed (coefficients k.form)) (trimmed (coefficients l.form))) (int_eq (constant k.form) (constant l.form) && int_eq k.den l.den)
    (signed_items (trimmed (coefficients k.form)) (trimmed (coefficients l.form)))
    (Decides-and (int_eq (constant k.form) (constant l.form)) (int_eq k.den l.den) (Decides-int_eq (constant k.form) (constant l.form)) (Decides-int_eq k.den l.den))

decides_quotient : (k l : Quotient) → Decides (same_quotient l k) (SameKey k l)
decides_quotient k l =
    let w = max (width l.form) (width k.form) in
    decides_other (same_quotient l k)
    (Decides-and (same_number l.den k.den) (same_form (widen_to w l.form) (widen_to w k.form)) (decides_number l.den k.den) (wide_forms w l.form k.form (omega arith) (omega arith)))
    (λ (h : (l.den ≡ k.den) × ((trimmed (coefficients l.form) ≡ trimmed (coefficients k.form)) × (constant l.form ≡ constant k.form))). (sym h.1.0, (sym h.1.1, sym h.0)))
    (λ (h : SameKey k l). (sym h.1.1, (sym h.0, sym h.1.0)))

-- they are one
pub same_quotient_is_key : (k l : Quotient) → same_quotient l k ≡ is_same_key k l
same_quotient_is_key k l = one_answer (same_quotient l k) (is_same_key k l) (decides_quotient k l) (decides_key k l)

pub same_key : (k l : Quotient) → same_quotient l k ≡ true → SameKey k l
same_key k l e = (decides_quotient k l).0 e
