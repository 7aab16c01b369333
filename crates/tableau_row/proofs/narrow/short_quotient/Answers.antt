use Rattle.tableau_row.proofs.Words.{rules, quotient_positive, short_held}
use Rattle.short_numbers.proofs.Quotients.{quotient_short}
use Rattle.tableau_row.proofs.narrow.short_quotient.Goals as goal

pub narrow-requires : goal.narrow-requires
narrow-requires c = short_held c.args.a c.requires.short

pub returns-clause-value : goal.returns-clause-value
returns-clause-value c = search rules

pub returns-clause-some : goal.returns-clause-some
returns-clause-some c = λ h. rw (returns-clause-value c) (quotient_positive c.args.a c.args.d c.requires.positive h)

pub returns-clause-short : goal.returns-clause-short
returns-clause-short c = rw (returns-clause-value c) (quotient_short c.args.a c.args.d c.requires.positive c.requires.short)
