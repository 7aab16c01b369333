use Rattle.short_row.proofs.Words.{◌≡◌, All, floor_div, IsShort, mapped}
use Rattle.short_row.proofs.wide.divide_made.Given as goal

abbrev pub invariant-loop-number : goal.invariant-loop-number
invariant-loop-number l = (l.entries ≡ mapped (λ x. floor_div x l.d) l.number-index l.fn.entries) × All IsShort l.entries
