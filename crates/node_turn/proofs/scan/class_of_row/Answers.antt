use Rattle.node_turn.proofs.Words.{refl, row_at, counted_none}
use Rattle.sign_split.proofs.TightSigns.{class_plus}
use Rattle.node_turn.proofs.scan.class_of_row.Goals as goal

pub returns-then-is_seen_nowhere_below-clause-gives : goal.returns-then-is_seen_nowhere_below-clause-gives
returns-then-is_seen_nowhere_below-clause-gives c = record {
  agrees = class_plus c.args.context.now.forms c.args.context.now.width (row_at c.args.rows.now.rows c.args.i).constant c.args.work.now (c.if-is_seen_nowhere_below.ensures refl);
  counted = counted_none c.args.work.now;
}
