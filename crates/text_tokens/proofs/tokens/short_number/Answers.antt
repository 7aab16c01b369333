use Rattle.text_tokens.proofs.Words.{rules}
use Rattle.text_tokens.proofs.ShortNumbers.{number_here}
use Rattle.text_tokens.proofs.tokens.short_number.Goals as goal

pub returns-clause-value : goal.returns-clause-value
returns-clause-value c = λ place. number_here place c.leading-digit_len.result.0 _ c.unsigned_part-rest.result.now c.args.bytes.now (search rules) (search rules) (search rules) (search rules) (search rules) (search rules)
