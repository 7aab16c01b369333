use Rattle.node_rows.proofs.Words.{◌∙◌, ap, sym, subst, ℤ, pos, ◌≤ℤ◌, arith, ints, gcd, gcd_of}
use Rattle.pip_model.proofs.Gcd.{gcd_assoc}
use Rattle.affine_forms.proofs.Bits.{held, held_fits}
use Rattle.node_rows.proofs.reading.divisor.Goals as goal

pub gcd_with-requires-clause-start_nonnegative : goal.gcd_with-requires-clause-start_nonnegative
gcd_with-requires-clause-start_nonnegative c = subst (λ (z : ℤ). pos 0 ≤ℤ z) (sym (held c.args.den c.requires.row.den_fits)) (omega (arith, ints, c.requires.row.positive))

pub gcd_with-requires-clause-start_fits : goal.gcd_with-requires-clause-start_fits
gcd_with-requires-clause-start_fits c = held_fits c.args.den c.requires.row.den_fits

pub gcd_with-requires-clause-fits : goal.gcd_with-requires-clause-fits
gcd_with-requires-clause-fits c = c.requires.row.coefs_fit

pub gcd_with-requires-2-clause-start_nonnegative : goal.gcd_with-requires-2-clause-start_nonnegative
gcd_with-requires-2-clause-start_nonnegative c = subst (λ (z : ℤ). pos 0 ≤ℤ z) (sym (held c.gcd_with.result c.gcd_with.ensures.fits)) c.gcd_with.ensures.low

pub gcd_with-requires-2-clause-start_fits : goal.gcd_with-requires-2-clause-start_fits
gcd_with-requires-2-clause-start_fits c = held_fits c.gcd_with.result c.gcd_with.ensures.fits

pub gcd_with-requires-2-clause-fits : goal.gcd_with-requires-2-clause-fits
gcd_with-requires-2-clause-fits c = c.requires.row.constant_fit

pub returns-clause-value : goal.returns-clause-value
returns-clause-value c =
    let coefs = gcd_of c.args.coefs.now in
    let constant = gcd_of c.args.constant.now in
    held c.gcd_with-2.result c.gcd_with-2.ensures.fits ∙ c.gcd_with-2.ensures.value
    ∙ ap (λ (z : ℤ). gcd z constant) (held c.gcd_with.result c.gcd_with.ensures.fits ∙ c.gcd_with.ensures.value ∙ ap (λ (z : ℤ). gcd z coefs) (held c.args.den c.requires.row.den_fits))
    ∙ gcd_assoc c.args.den coefs constant

pub returns-clause-positive : goal.returns-clause-positive
returns-clause-positive c =
    let start = subst (λ (z : ℤ). pos 1 ≤ℤ z) (sym (held c.args.den c.requires.row.den_fits)) c.requires.row.positive in
    let first = subst (λ (z : ℤ). pos 1 ≤ℤ z) (sym (held c.gcd_with.result c.gcd_with.ensures.fits)) (c.gcd_with.ensures.positive start).0 in
    subst (λ (z : ℤ). pos 1 ≤ℤ z) (sym (held c.gcd_with-2.result c.gcd_with-2.ensures.fits)) (c.gcd_with-2.ensures.positive first).0
