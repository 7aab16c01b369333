use Rattle.text_tokens.proofs.Words.{◌≡◌, ◌-◌, ◌^◌, min, take, natural_of}
use Rattle.text_tokens.proofs.tokens.natural.Given as goal

abbrev pub invariant-loop-byte : goal.invariant-loop-byte
invariant-loop-byte l = l.value ≡ min (natural_of (take l.byte-index l.digits)) (2 ^ 128 - 1)
