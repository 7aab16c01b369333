use Rattle.item_writing.proofs.Words.{◌≡◌, ◌+◌, ◌-◌, ◌≤◌, vec_len, IfSome, Consumes, Takes, most_input_bytes}
use Rattle.item_writing.proofs.input.read_input.Given as goal

abbrev pub invariant-loop-buf : goal.invariant-loop-buf
invariant-loop-buf g l =
    Consumes (g.S.Source.left l.fn.source) (g.S.Source.left l.source) l.bytes.items
    × (g.S.Source.faults l.source ≡ g.S.Source.faults l.fn.source)
    × IfSome (g.S.Source.left l.fn.source) (λ _. g.S.Source.taken l.source ≡ g.S.Source.taken l.fn.source + vec_len l.bytes)
    × (vec_len l.bytes ≤ most_input_bytes + 1)
    × IfSome (g.S.Source.left l.fn.source) (λ _. Takes g.S.Source.calls g.S.Source.taken l.fn.source l.source)

abbrev pub decreases-loop-buf : goal.decreases-loop-buf
decreases-loop-buf g l = most_input_bytes + 1 - vec_len l.bytes
