use Rattle.lane_run.proofs.Words.{rules, arith, ◌≡◌, common_steps, Done, count_pivot, run_fault, IsPivoted}
use Rattle.lane_run.proofs.FrontPivot.{front_closes, front_refused, front_goes_on}
use Rattle.lane_run.proofs.turn.pivot_or_end.Goals as goal

pub returns-in_default-clause-turn : goal.returns-in_default-clause-turn
returns-in_default-clause-turn c = λ F modest below. front_closes c.args.rows.now c.args.row F c.args.work.now c.in_default.ensures modest below

pub returns-in_err-count_pivot-clause-refused : goal.returns-in_err-count_pivot-clause-refused
returns-in_err-count_pivot-clause-refused c =
    let told = front_refused c.args.rows.now c.args.row c.in-Some.c c.args.work.now c.count_pivot.new.self (run_fault c.in_err-count_pivot.field-0.0) c.in-Some.ensures c.in_err-count_pivot.ensures.gives.agrees in
    grind (arith, common_steps, told)

pub returns-clause-turn : goal.returns-clause-turn
returns-clause-turn c = λ F modest below.
    let counted : count_pivot c.args.work.now ≡ Done tt c.count_pivot.new.self = search rules in
    let made : IsPivoted c.args.rows.now c.pivot_at.new.rows c.args.row c.in-Some.c = search rules in
    front_goes_on c.args.rows.now c.pivot_at.new.rows c.args.row c.in-Some.c F c.args.work.now c.count_pivot.new.self made modest below counted
