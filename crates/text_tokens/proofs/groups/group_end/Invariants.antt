use Rattle.text_tokens.proofs.Words.{◌≡◌, ◌+◌, ◌<◌, ◌≤◌, drop, closing}
use Rattle.text_tokens.proofs.groups.group_end.Given as goal

abbrev pub invariant-loop-i : goal.invariant-loop-i
invariant-loop-i l = (closing l.depth (l.start + l.i) (drop l.i l.rest) ≡ closing 1 l.start l.rest) × (l.depth ≤ l.i + 1) × (0 < l.depth)
