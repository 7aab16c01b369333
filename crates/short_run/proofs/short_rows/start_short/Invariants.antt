use Rattle.short_run.proofs.Words.{◌≡◌, map, take, widen_to, start}
use Rattle.short_run.proofs.short_rows.start_short.Given as goal

abbrev pub invariant-loop-form : goal.invariant-loop-form
invariant-loop-form l = l.rows ≡ record { unknowns = l.places; width = 0; rows = start l.places 0 (map (widen_to l.places) (take l.form-index l.forms)) }
