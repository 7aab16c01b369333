use Rattle.certificate_check.proofs.Words.{◌≡◌, ◌++◌, take, drop, map, shareable, renumbered, lowered}
use Rattle.certificate_check.proofs.common.shareable_len.Given as goal

abbrev pub invariant-loop-i : goal.invariant-loop-i
invariant-loop-i l =
    shareable l.numbering.leaf l.numbering.own l.steps
    ≡ map (renumbered (lowered l.numbering.leaf l.numbering.own)) (take l.i l.steps) ++ shareable l.numbering.leaf l.numbering.own (drop l.i l.steps)
