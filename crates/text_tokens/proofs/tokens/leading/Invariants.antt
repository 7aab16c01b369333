use Rattle.text_tokens.proofs.Words.{◌≡◌, ◌+◌, ◌-◌, ◌^◌, min, take, drop, is_digit, natural_of}
use Rattle.std.specs.List.{prefix_len}
use Rattle.text_tokens.proofs.tokens.leading.Given as goal

abbrev pub invariant-loop-i : goal.invariant-loop-i
invariant-loop-i l = (l.value ≡ min (natural_of (take l.i l.bytes)) (2 ^ 64 - 1)) × (prefix_len is_digit l.bytes ≡ l.i + prefix_len is_digit (drop l.i l.bytes))
