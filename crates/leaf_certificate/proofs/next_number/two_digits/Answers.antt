use Rattle.leaf_certificate.proofs.Words.{rules}
use Rattle.leaf_certificate.proofs.TwoDigits.{two_spaced}
use Rattle.leaf_certificate.proofs.next_number.two_digits.Goals as goal

pub returns-in-32-clause-value : goal.returns-in-32-clause-value
returns-in-32-clause-value c = λ place.
    two_spaced place _ c.args.bytes.now (search rules) (search rules) (search rules) (search rules) (search rules) (search rules)
