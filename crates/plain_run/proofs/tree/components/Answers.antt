use Rattle.plain_run.proofs.Words.{rules, [], form_row, row_component, IsComponent}
use Rattle.std.proofs.lemmas.List.{map_more}
use Rattle.std.proofs.lemmas.List.Elements.{All-push}
use Rattle.plain_run.proofs.tree.components.Goals as goal

pub loop-i-preserved : goal.loop-i-preserved
loop-i-preserved c =
    let more = map_more row_component c.args.rows.now.rows c.loop-i.i (form_row 0 []) (search rules) in (
      search (rules, more),
      rw c.in_ok-push.ensures.items (All-push (IsComponent 0) c.loop-i.made.items c.in_ok-component.component c.loop-i.invariant.1 (search rules)),
    )
