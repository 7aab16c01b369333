use Rattle.kept_run.proofs.Words.{rules, ◌≡◌, form_rows, Done, replayed}
use Rattle.kept_run.proofs.EndingBehind.{asked_end}
use Rattle.kept_run.proofs.asking.ask.Goals as goal

pub returns-in-Some : goal.returns-in-Some
returns-in-Some c =
    let m = c.args.m.now in
    let rows = form_rows c.args.m.now.run.end.unknowns c.args.forms.now in
    let made : replayed c.args.m.now.run.pivots.rows c.args.m.now.run.columns.items (form_rows c.args.m.now.run.end.unknowns c.args.forms.now) c.args.work.now ≡ Done c.rows_behind.new.rows.rows c.rows_behind.new.work = search rules in
    record {
      gives = record {
        agrees = asked_end m rows c.rows_behind.new.rows.rows c.args.work.now c.rows_behind.new.work c.in-Some.found c.requires.stopped c.if-m.true made c.in-Some.ensures;
        counted = c.rows_behind.ensures.gives.counted;
      };
    }
