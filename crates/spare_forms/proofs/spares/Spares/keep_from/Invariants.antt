use Rattle.std.proofs.Common.{◌≡◌, ◌≤◌, length, take}
use Rattle.std.specs.Prelude.{vec_capacity}
use Rattle.spare_forms.proofs.spares.Spares.keep_from.Given as goal

abbrev pub invariant-loop-self : goal.invariant-loop-self
invariant-loop-self l = (take l.first l.forms.items ≡ take l.first l.fn.forms.items)
    × (l.first ≤ length l.forms.items)
    × (vec_capacity l.forms ≡ vec_capacity l.fn.forms)

abbrev pub decreases-loop-self : goal.decreases-loop-self
decreases-loop-self l = length l.forms.items
