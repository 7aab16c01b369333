use Rattle.text_tokens.proofs.Words.{rules}
use Rattle.text_tokens.proofs.DigitNumbers.{digit_here, minus_here}
use Rattle.text_tokens.proofs.tokens.digit_number.Goals as goal

pub returns-in-len2-up-clause-value : goal.returns-in-len2-up-clause-value
returns-in-len2-up-clause-value c = λ place.
    digit_here place _ c.args.bytes.now (search rules) (search rules) (search rules) (search rules)

pub returns-in-45-clause-value : goal.returns-in-45-clause-value
returns-in-45-clause-value c = λ place.
    minus_here place _ c.args.bytes.now (search rules) (search rules) (search rules) (search rules) (search rules)
