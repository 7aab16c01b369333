use Rattle.node_turn.proofs.Words.{rules, [], map_more, All-push, form_row, row_component, IsComponent}
use Rattle.node_turn.proofs.turn.components.Goals as goal

pub loop-i-preserved : goal.loop-i-preserved
loop-i-preserved c =
    let more = map_more row_component c.args.rows.now.rows c.loop-i.i (form_row 0 []) (search rules) in record {
      kept = search rules;
      value = search (rules, more);
      components = rw c.in_ok-push.ensures.items (All-push (IsComponent c.args.rows.now.width) c.loop-i.made.items c.in_ok-component.component c.loop-i.invariant.components (search rules));
    }
