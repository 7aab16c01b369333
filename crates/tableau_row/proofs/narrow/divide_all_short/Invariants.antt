use Rattle.tableau_row.proofs.Words.{◌≡◌, All, floor_div, IsShort, mapped}
use Rattle.tableau_row.proofs.narrow.divide_all_short.Given as goal

abbrev pub invariant-loop-entry : goal.invariant-loop-entry
invariant-loop-entry l = (l.entries ≡ mapped (λ x. floor_div x l.d) l.entry-index l.fn.entries) × All IsShort l.entries
