use Rattle.kept_run.proofs.Words.{rules, ◌≡◌, ◌∙◌, sym, true, is_nonneg, constant, row_at, first_rows, ◌++◌, ◌∷◌, []}
use Rattle.kept_run.proofs.OneFurther.{end-longer, replay-further}
use Rattle.kept_run.proofs.further.go_one_further.Goals as goal

pub returns-then-not-is_below : goal.returns-then-not-is_below
returns-then-not-is_below c n K is =
    let m = c.args.m.now.run in
    let told = c.in_ok-push_further.ensures in
    let above : is_nonneg (constant (row_at c.push_further.new.room.rows 0).constant) ≡ true = search rules in
    let ends = end-longer m.end.unknowns m.end.rows (row_at c.push_further.new.room.rows 0) c.requires.stopped.formed.rows (sym c.requires.stopped.at_end ∙ c.if-m.true) above in
    record {
      unknowns = told.unknowns ∙ is.unknowns;
      stopped = record { formed = told.formed; at_end = c.if-m.true ∙ sym (rw (told.unknowns, told.rows) ends) };
      replay = replay-further n K c.args.form.now m c.push_further.new.m is.unknowns is.replay told.replay;
    }

pub returns : goal.returns
returns c n K is =
    let told = c.in_ok-push_further.ensures in
    let now = c.in_ok-run_to_end.ensures in
    record {
      unknowns = now.unknowns ∙ told.unknowns ∙ is.unknowns;
      stopped = now.stopped;
      replay = now.replay (first_rows n (K ++ c.args.form.now ∷ [])) (replay-further n K c.args.form.now c.args.m.now.run c.push_further.new.m is.unknowns is.replay told.replay);
    }
