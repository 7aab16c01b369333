use Rattle.short_row.proofs.Words.{◌≡◌, pos, mapped}
use Rattle.short_row.proofs.row.clear_all.Given as goal

abbrev pub invariant-loop-number : goal.invariant-loop-number
invariant-loop-number l = l.numbers ≡ mapped (λ x. pos 0) l.number-index l.fn.numbers
