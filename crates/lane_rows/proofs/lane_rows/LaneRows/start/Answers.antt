use Rattle.lane_rows.proofs.Starts.{units_laned, begun_table}
use Rattle.lane_rows.proofs.lane_rows.LaneRows.start.Goals as goal

pub invariant_of-self-2 : goal.invariant_of-self-2
invariant_of-self-2 c = units_laned c.args.places c.start_in.new.rows.items c.in_ok-start_in.ensures.ok c.requires _ c.unit-self-inside.ensures.value c.unit-self-inside.ensures.lanes

pub returns-clause-ok : goal.returns-clause-ok
returns-clause-ok c = begun_table c.args.places c.start_in.new.rows.items c.in_ok-start_in.ensures.ok c.requires
