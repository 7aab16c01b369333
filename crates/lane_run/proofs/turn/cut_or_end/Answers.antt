use Rattle.lane_run.proofs.Words.{rules, arith, ◌≡◌, sym, subst, Some, None, common_steps, Done, count_cut, row_at, first_fraction, constant_cut, run_fault, ScaledTable, with_row, IsTurnOf, run_rows}
use Rattle.lane_run.proofs.CutTurns.{fraction_inside, point_found, cut_added, all_stopped}
use Rattle.lane_run.proofs.turn.cut_or_end.Goals as goal

pub returns-in_default-clause-turn : goal.returns-in_default-clause-turn
returns-in_default-clause-turn c =
    let t = c.args.rows.now in
    λ F above. point_found t t.most c.scale.ensures.rows c.unknowns.ensures.rows F above c.args.work.now (search rules)

pub returns-in_err-count_cut-clause-refused : goal.returns-in_err-count_cut-clause-refused
returns-in_err-count_cut-clause-refused c =
    let t = c.args.rows.now in
    let some : first_fraction c.args.rows.now.unknowns c.args.rows.now.rows ≡ Some c.in-Some.i = search rules in
    let told = all_stopped t t.most c.scale.ensures.rows c.unknowns.ensures.rows c.in-Some.i some c.args.work.now c.count_cut.new.self (run_fault c.in_err-count_cut.field-0.0) c.in_err-count_cut.ensures.gives.agrees in
    grind (arith, common_steps, told)

pub push_cut-requires : goal.push_cut-requires
push_cut-requires c =
    let t = c.args.rows.now in
    let inside = fraction_inside t t.most c.scale.ensures.rows c.unknowns.ensures.rows c.in-Some.i (search rules) in
    omega (arith, inside, c.unknowns.ensures.rows)

pub returns-clause-turn : goal.returns-clause-turn
returns-clause-turn c = λ F above.
    let t = c.args.rows.now in
    let some : first_fraction c.args.rows.now.unknowns c.args.rows.now.rows ≡ Some c.in-Some.i = search rules in
    let counted : count_cut c.args.work.now ≡ Done tt c.count_cut.new.self = search rules in
    let made : c.push_cut.new.self ≡ with_row c.args.rows.now (constant_cut (row_at c.args.rows.now.rows c.in-Some.i)) = search rules in
    subst (λ (now : ScaledTable). IsTurnOf t.unknowns (run_rows t F) (run_rows now F) c.args.work.now c.count_cut.new.self None) (sym made)
    (cut_added t t.most c.scale.ensures.rows c.unknowns.ensures.rows F above c.in-Some.i some c.args.work.now c.count_cut.new.self counted)
