use Rattle.quast_walk.proofs.Words.{◌≡◌, ◌+◌, ◌*◌, ◌≤◌, length, take}
use Rattle.quast_walk.proofs.starting.fill.Given as goal

abbrev pub invariant-loop-form : goal.invariant-loop-form
invariant-loop-form l =
    (l.context.width ≡ l.rows.width)
    × (l.context.forms ≡ take l.form-index l.forms)
    × (length l.forms + 2 * l.levels ≤ l.context.spare + l.form-index)
