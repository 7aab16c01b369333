use Rattle.text_tokens.proofs.Words.{◌≡◌, ◌+◌, drop, next_open}
use Rattle.text_tokens.proofs.groups.next_open.Given as goal

abbrev pub invariant-loop-i : goal.invariant-loop-i
invariant-loop-i l = next_open (l.start + l.i) (drop l.i l.rest) ≡ next_open l.start l.rest
