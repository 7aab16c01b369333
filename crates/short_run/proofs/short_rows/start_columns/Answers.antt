use Rattle.short_run.proofs.Words.{refl, unit_row}
use Rattle.point_turns.proofs.RowLaws.{count_map}
use Rattle.short_run.proofs.short_rows.start_columns.Goals as goal

pub loop-c-preserved : goal.loop-c-preserved
loop-c-preserved c = rw (c.in_ok-push_unit.ensures.ok, c.loop-c.invariant, count_map (unit_row c.args.places 0) c.loop-c.c) refl
