use Rattle.std.proofs.Common.{◌≡◌, ◌+◌, ◌≤◌, ◌++◌, length, take, vec_capacity}
use Rattle.text_printing.proofs.parts.put_mark.Given as goal

abbrev pub invariant-loop-byte : goal.invariant-loop-byte
invariant-loop-byte l =
    (l.out.items ≡ l.initial.out.items ++ take l.byte-index l.bytes)
    × (length l.initial.out.items + length l.bytes ≤ vec_capacity l.out)
