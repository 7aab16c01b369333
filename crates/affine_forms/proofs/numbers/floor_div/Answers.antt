use Rattle.affine_forms.proofs.Words.{rules, quotient_positive}
use Rattle.affine_forms.proofs.Divisors.{quotient_fits}
use Rattle.affine_forms.proofs.numbers.floor_div.Goals as goal

pub returns-then-is_short-2-clause-value : goal.returns-then-is_short-2-clause-value
returns-then-is_short-2-clause-value c = search rules

pub returns-then-is_short-2-clause-some : goal.returns-then-is_short-2-clause-some
returns-then-is_short-2-clause-some c = λ h. rw (returns-then-is_short-2-clause-value c) (quotient_positive c.args.a c.args.d c.requires.positive h)

pub returns-then-is_short-2-clause-fits : goal.returns-then-is_short-2-clause-fits
returns-then-is_short-2-clause-fits c = rw (returns-then-is_short-2-clause-value c) (quotient_fits c.args.a c.args.d c.requires.positive c.requires.fits)

pub returns-clause-value : goal.returns-clause-value
returns-clause-value c = search rules

pub returns-clause-some : goal.returns-clause-some
returns-clause-some c = λ h. rw (returns-clause-value c) (quotient_positive c.args.a c.args.d c.requires.positive h)

pub returns-clause-fits : goal.returns-clause-fits
returns-clause-fits c = rw (returns-clause-value c) (quotient_fits c.args.a c.args.d c.requires.positive c.requires.fits)
