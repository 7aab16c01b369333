use Rattle.certificate_check.proofs.Words.{◌≡◌, ◌<◌, drop, map, length, shared_by, sized}
use Rattle.certificate_check.proofs.common.shared_steps.Given as goal

abbrev pub invariant-loop-r : goal.invariant-loop-r
invariant-loop-r l =
    (l.shared.items ≡ shared_by l.leaf (drop l.r (map sized l.sizes)) (drop l.r l.refutations))
    × (l.r < length l.refutations)

abbrev pub decreases-loop-r : goal.decreases-loop-r
decreases-loop-r l = l.r
