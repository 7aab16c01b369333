use Rattle.short_tableau.proofs.Words.{◌≡◌, neg_ℤ, All, floor_mod, IsShort, mapped}
use Rattle.short_tableau.proofs.cuts.ceil_mod_all.Given as goal

abbrev pub invariant-loop-number : goal.invariant-loop-number
invariant-loop-number l = (l.entries ≡ mapped (λ x. neg_ℤ (floor_mod (neg_ℤ x) l.d)) l.number-index l.fn.entries) × All IsShort l.entries
