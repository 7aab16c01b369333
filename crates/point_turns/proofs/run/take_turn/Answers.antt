use Rattle.point_turns.proofs.Words.{sym, ap}
use Rattle.pip_model.specs.Run.{AllPlus, MinusAt}
use Rattle.point_turns.proofs.Turning.{signs_of, turned}
use Rattle.point_turns.proofs.run.take_turn.Goals as goal

pub returns-in-Some-clause-gives : goal.returns-in-Some-clause-gives
returns-in-Some-clause-gives g c =
    turned c.args.integer (g.R.PointRows.table c.args.rows.now) (g.R.PointRows.table c.first_below.new.rows) (g.R.PointRows.table c.pivot_turn.new.rows).rows (MinusAt c.in-Some.r) c.in-Some.ensures.kept (ap signs_of (sym c.in-Some.ensures.value)) c.pivot_turn.ensures.gives

pub returns-in-None-clause-gives : goal.returns-in-None-clause-gives
returns-in-None-clause-gives g c =
    turned c.args.integer (g.R.PointRows.table c.args.rows.now) (g.R.PointRows.table c.first_below.new.rows) (g.R.PointRows.table c.last_turn.new.rows).rows AllPlus c.in-None.ensures.kept (ap signs_of (sym c.in-None.ensures.value)) c.last_turn.ensures.gives
