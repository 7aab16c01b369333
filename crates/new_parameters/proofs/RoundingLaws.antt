-- The upper bound of a quotient fits, since the constant of its form lies in 0 .. d - 1.
use Rattle.new_parameters.proofs.Words.{◌≡◌, ℕ, ◌+◌, ◌-◌, ◌<◌, ◌≤◌, ℤ, pos, ◌+ℤ◌, ◌-ℤ◌, ◌≤ℤ◌, neg_ℤ, refl, false, List, [], ◌∷◌, length, ap, sym, ◌∙◌, arith, length-append, length-set, slice_set, IsTrue, IsFalse, length-map, length-replicate, get_or-map, get_or-set_other, width, coefficients, constant, entry, negate, widen_to, Quotient, rounding, upper_bound, length-coefficients, length-widened, constant-plus, IsQuotient}
use Rattle.std.proofs.Math.Seq.{get_or-append_seam}
use Rattle.std.proofs.lemmas.Int.{ints}
use Rattle.pip_model.specs.Listed.{all_fit}
use Rattle.pip_model.proofs.Fitting.{fits-below, fit_cons}
use Rattle.pip_model.proofs.Bounds.{length-rounding}
use Rattle.affine_forms.specs.Checks.{Fits, is_form_overflow}
use Rattle.affine_forms.specs.declared.memory.FormRefusal.{FormRefusal}
use Rattle.affine_forms.specs.declared.memory.FormRefusal.TheVariants.{Overflow}
use Rattle.affine_forms.specs.Forms.{IsResidue}
use Rattle.affine_forms.proofs.QuotientForms.{rounding_is}
use Rattle.new_parameters.proofs.Trimming.{padded}

widened_last : (w : ℕ) (c : List ℤ) → width c ≤ w → entry (widen_to w c) w ≡ constant c
widened_last w c h =
    let front : length (padded (w - width c) (coefficients c)) ≡ w = simp (length-append, length-replicate, length-coefficients) (omega arith) in
    ap (λ (n : ℕ). entry (widen_to w c) n) (sym front) ∙ get_or-append_seam (padded (w - width c) (coefficients c)) (constant c) [] (pos 0)

rounding_constant : (w q : ℕ) (k : Quotient) → width k.form ≤ w → q < w → (q < width k.form → entry k.form q ≡ pos 0) → constant (rounding w q k) ≡ neg_ℤ (constant k.form)
rounding_constant w q k h lt free =
    let wide = widen_to w k.form in
    let long : length (negate wide) ≡ w + 1 = simp length-map (length-widened w k.form h) in
    let last : length (slice_set (negate wide) q k.den) - 1 ≡ w = omega (arith, length-set (negate wide) q k.den, long) in
    ap constant (sym (rounding_is w q k.form k.den h lt free)) ∙ ap (λ (n : ℕ). entry (slice_set (negate wide) q k.den) n) last
    ∙ get_or-set_other (negate wide) q w k.den (pos 0) (omega (arith, lt))
    ∙ get_or-map neg_ℤ wide w (pos 0) (pos 0) (omega (arith, length-widened w k.form h))
    ∙ ap neg_ℤ (widened_last w k.form h)

constant_is_residue : (k : Quotient) (w : ℕ) → IsQuotient w k → 0 < length k.form → IsResidue k.den (constant k.form)
constant_is_residue k w h some = h.entries (width k.form) (pos 0) (omega (arith, some))

pub some_divisor : (k : Quotient) (w : ℕ) → IsQuotient w k → 0 < length k.form → pos 1 ≤ℤ k.den
some_divisor k w h some = let c = constant_is_residue k w h some in omega (arith, ints, c.low, c.high)

pub upper_fits : (w q : ℕ) (k : Quotient) → IsQuotient w k → 0 < length k.form → q < w → (q < width k.form → entry k.form q ≡ pos 0) → Fits k.den → IsTrue (all_fit (constant (upper_bound w q k) ∷ []))
upper_fits w q k h some lt free f =
    let c = constant_is_residue k w h some in
    let long = length-rounding w q k some (omega (arith, h.width)) (omega (arith, lt)) in
    let is : constant (upper_bound w q k) ≡ neg_ℤ (constant k.form) +ℤ (k.den -ℤ pos 1)
    = constant-plus (rounding w q k) (k.den -ℤ pos 1) (omega (arith, long)) ∙ ap (λ z. z +ℤ (k.den -ℤ pos 1)) (rounding_constant w q k (omega (arith, h.width)) lt free) in
    fit_cons (constant (upper_bound w q k)) [] (rw is (fits-below (neg_ℤ (constant k.form) +ℤ (k.den -ℤ pos 1)) k.den (omega (arith, ints, c.low, c.high)) (omega (arith, ints, c.low, c.high)) f)) refl

-- so an overflow is never answered
pub overflow_never : (w q : ℕ) (k : Quotient) (g : List ℤ) (d : ℤ) (e : FormRefusal) → e ≡ Overflow → g ≡ k.form → d ≡ k.den → IsQuotient w k → 0 < length g → q < w → (q < width k.form → entry k.form q ≡ pos 0) → Fits d
    → (IsTrue (is_form_overflow e) → IsFalse (all_fit (constant (upper_bound w q (record { form = g; den = d })) ∷ []))) → ⊥
overflow_never w q k g d e over same den h some lt free fit listed =
    let fits = upper_fits w q k h (rw same at some) lt free (rw den at fit) in
    let wide : all_fit (constant (upper_bound w q k) ∷ []) ≡ false = rw (same, den) at (listed (rw over refl)) in
    cc
