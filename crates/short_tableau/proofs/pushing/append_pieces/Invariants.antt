use Rattle.std.proofs.Common.{◌≡◌, ◌++◌, length}
use Rattle.short_tableau.proofs.pushing.append_pieces.Given as goal

abbrev pub invariant-loop-rest : goal.invariant-loop-rest
invariant-loop-rest l = l.numbers.items ++ l.rest ≡ l.fn.numbers.items ++ l.more

abbrev pub decreases-loop-rest : goal.decreases-loop-rest
decreases-loop-rest l = length l.rest
