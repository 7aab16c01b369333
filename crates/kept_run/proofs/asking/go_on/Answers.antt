use Rattle.kept_run.proofs.Words.{rules, ◌≡◌, ◌++◌}
use Rattle.kept_run.proofs.asking.go_on.Goals as goal

pub returns : goal.returns
returns c =
    let t = c.put_behind.new.run in
    let n : t.unknowns ≡ c.args.m.now.end.unknowns = search rules in
    let rows : t.rows ≡ c.args.m.now.end.rows ++ c.args.more.now.rows = search rules in
    let told = c.run_short.ensures.gives in
    record { gives = rw (← n, ← rows) (search (rules, told)) }
