use Rattle.short_row.proofs.Words.{◌≡◌, ◌*ℤ◌, mapped}
use Rattle.short_row.proofs.whole.multiply_all.Given as goal

abbrev pub invariant-loop-number : goal.invariant-loop-number
invariant-loop-number l = l.entries ≡ mapped (λ x. l.d *ℤ x) l.number-index l.fn.entries
