use Rattle.text_tokens.proofs.Words.{rules, arith, ◌∙◌, ◌-◌, length, drop, length-drop}
use Rattle.std.proofs.lemmas.List.{take_all}
use Rattle.text_tokens.proofs.SpacedNumbers.{digit_spaced, minus_spaced}
use Rattle.text_tokens.proofs.spaced.spaced_number.Goals as goal

pub returns-in-32-clause-value : goal.returns-in-32-clause-value
returns-in-32-clause-value c =
    let bytes = c.args.bytes.now in
    digit_spaced _ bytes _ (search rules) (search rules) (search rules) (search rules) (take_all (length bytes - 2) (drop 2 bytes) (omega (arith, length-drop 2 bytes)))

pub returns-in-45-clause-value : goal.returns-in-45-clause-value
returns-in-45-clause-value c =
    let bytes = c.args.bytes.now in
    minus_spaced _ bytes _ (search rules) (search rules) (search rules) (search rules) (search rules) (search rules ∙ take_all (length bytes - 3) (drop 3 bytes) (omega (arith, length-drop 3 bytes)))
