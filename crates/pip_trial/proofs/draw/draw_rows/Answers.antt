use Rattle.pip_trial.proofs.Words.{arith}
use Rattle.pip_trial.proofs.Steps.{rows_more}
use Rattle.pip_trial.proofs.draw.draw_rows.Goals as goal

pub loop-preserved : goal.loop-preserved
loop-preserved c =
    rows_more c.args.unknowns c.args.params c.args.count c.loop.counter c.loop.generator c.draw_row.new.generator _ c.loop.rows.items c.push.new.self.items _ c.in_ok-draw_row.field-0
    (omega arith) c.in_ok-draw_row.ensures.row c.in_ok-draw_row.ensures.state c.in_ok-push.ensures.items c.loop.invariant
