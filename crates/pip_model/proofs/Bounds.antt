-- The lengths of a quotient's forms: `-g + D*q` and its two bounds.
use Rattle.pip_model.proofs.Words.{◌≡◌, ◌∙◌, sym, ℕ, suc, ◌-◌, ◌≤◌, pos, ◌-ℤ◌, arith, length, length-map, negate, unit_form, widen_to}
use Rattle.pip_model.specs.Cuts.{Quotient, rounding, lower_bound, upper_bound}
use Rattle.pip_model.proofs.Vectors.{length-unit_form, length-widen_to}
use Rattle.pip_model.proofs.Forms.{length-add, length-plus}

module _ (w q : ℕ) (k : Quotient) (some : 1 ≤ length k.form) (within : length k.form ≤ suc w) (place : q ≤ w) where
  pub rounding-parts : (length (negate (widen_to w k.form)) ≡ suc w) × (length (unit_form w q k.den) ≡ suc w)
  rounding-parts =
      let wide = length-widen_to w (length k.form - 1) k.form (omega (arith, some)) (omega (arith, within)) in
      (simp length-map (omega (arith, wide)), omega (arith, length-unit_form w q k.den place))

  pub length-rounding : length (rounding w q k) ≡ suc w
  length-rounding = length-add (negate (widen_to w k.form)) (unit_form w q k.den) (rounding-parts.0 ∙ sym rounding-parts.1) ∙ rounding-parts.0

  pub length-bounds : (length (lower_bound w q k) ≡ suc w) × (length (upper_bound w q k) ≡ suc w)
  length-bounds = (simp length-map length-rounding, length-plus (rounding w q k) (k.den -ℤ pos 1) (omega (arith, length-rounding)) ∙ length-rounding)
