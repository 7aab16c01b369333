use Rattle.text_tokens.proofs.Words.{rules, arith, ◌∙◌, ◌+◌, ◌-◌, length, take, drop, length-drop, Number}
use Rattle.std.proofs.lemmas.List.{take_all}
use Rattle.text_tokens.proofs.Blanks.{behind_blank}
use Rattle.text_tokens.proofs.tokens.small_number.Goals as goal

pub returns-in-Some-clause-value : goal.returns-in-Some-clause-value
returns-in-Some-clause-value c = λ place.
    let bytes = c.args.bytes.now in
    let all = take_all (length bytes - 1) (drop 1 bytes) (omega (arith, length-drop 1 bytes)) in
    let behind = behind_blank place c.in-Some.len (Number c.in-Some.number) (take (length bytes - 1) (drop 1 bytes)) bytes
    (c.in-Some.ensures.value (place + 1)) c.in-Some.ensures.front all (search rules) (search rules) in
    (behind.0 ∙ search rules, behind.1)
