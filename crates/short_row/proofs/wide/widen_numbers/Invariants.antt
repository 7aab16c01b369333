use Rattle.short_row.proofs.Words.{◌≡◌, take}
use Rattle.short_row.proofs.wide.widen_numbers.Given as goal

abbrev pub invariant-loop-number : goal.invariant-loop-number
invariant-loop-number l = l.wide.items ≡ take l.number-index l.numbers
