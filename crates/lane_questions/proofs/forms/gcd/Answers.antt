use Rattle.lane_questions.proofs.Words.{rules, arith, ◌≡◌, ◌∙◌, to_z, of_z, w64, w32, fits_signed_from_abs, to_z-of_z, ints, gcd}
use Rattle.lane_questions.proofs.TightLanes.{gcd_narrow}
use Rattle.lane_questions.proofs.forms.gcd.Goals as goal

pub overflow_cast-result : goal.overflow_cast-result
overflow_cast-result c =
    let value : to_z w64 (of_z w64 c.short_gcd.result) ≡ gcd c.args.a c.args.b = search rules in
    fits_signed_from_abs w32 (to_z w64 (of_z w64 c.short_gcd.result)) (rw value (gcd_narrow c.args.a c.args.b c.requires.a c.requires.b))

pub returns-clause-value : goal.returns-clause-value
returns-clause-value c = to_z-of_z w32 (to_z w64 (of_z w64 c.short_gcd.result)) (overflow_cast-result c) ∙ (search rules)

pub returns-clause-low : goal.returns-clause-low
returns-clause-low c = rw (returns-clause-value c) (omega (arith, ints))

pub returns-clause-narrow : goal.returns-clause-narrow
returns-clause-narrow c = rw (returns-clause-value c) (gcd_narrow c.args.a c.args.b c.requires.a c.requires.b)
