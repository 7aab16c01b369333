use Rattle.node_turn.proofs.Words.{rules, ◌≡◌, IfSome, Refused, sym, subst, Some, row_at, Done, class, quotient_cut, AgreesCounted, run_fault, class_of, size, node_of, setting_of, turn_of}
use Rattle.std.proofs.lemmas.Result.{err_from_is_err_and}
use Rattle.pip_model.specs.Cuts as cuts
use Rattle.node_turn.proofs.Cutting.{known_by, known_refused}
use Rattle.node_turn.proofs.cut.quotient_cut.Goals as goal

pub returns-in_ok-class-in-Some-clause-gives : goal.returns-in_ok-class-in-Some-clause-gives
returns-in_ok-class-in-Some-clause-gives c =
    let path = c.args.path.now in
    let S = setting_of c.args.rows.now path in
    let N = node_of c.args.rows.now path in
    let R = row_at c.args.rows.now.rows c.args.i in
    let found : cuts.find_from path.quotients.params path.quotients.quotients (cuts.residue_of R) ≡ Some c.in-Some.place = search rules in
    let told : class path.context.forms path.context.width (cuts.rounding c.args.rows.now.width c.in-Some.place c.in_ok-key.key) c.args.work.now ≡ Done (class_of c.in_ok-class-in-Some.class) c.class_by_quotient.new.work = search rules in
    let key : c.in_ok-key.key ≡ cuts.residue_of R = search rules in
    let scope = c.requires.node.scope in
    let context = c.requires.node.context in
    let here : class path.context.forms (size path.quotients) (cuts.rounding (size path.quotients) c.in-Some.place (cuts.residue_of R)) c.args.work.now ≡ Done (class_of c.in_ok-class-in-Some.class) c.class_by_quotient.new.work = cc in
    let by = known_by S N c.args.i R c.in-Some.place c.args.work.now c.class_by_quotient.new.work (class_of c.in_ok-class-in-Some.class) here in
    let cut = subst (AgreesCounted (turn_of c.cut_by.new.rows path) run_fault c.cut_by.result c.class_by_quotient.new.work) (sym by) (c.cut_by.ensures.gives path c.class_by_quotient.new.work) in
    record {
      agrees = subst (λ o. AgreesCounted (turn_of c.cut_by.new.rows path) run_fault c.cut_by.result c.class_by_quotient.new.work (quotient_cut S N c.args.i R o c.args.work.now)) (sym found) cut;
      counted = c.class_by_quotient.ensures.gives.counted;
    }

pub returns-in_ok-class-in-Some-clause-turn : goal.returns-in_ok-class-in-Some-clause-turn
returns-in_ok-class-in-Some-clause-turn c = c.cut_by.ensures.turn c.args.path.now _

pub returns-in_err-class-in-Some-clause-gives : goal.returns-in_err-class-in-Some-clause-gives
returns-in_err-class-in-Some-clause-gives c =
    let path = c.args.path.now in
    let R = row_at c.args.rows.now.rows c.args.i in
    let fault = run_fault c.in_err-class-in-Some.field-0.0 in
    let found : cuts.find_from path.quotients.params path.quotients.quotients (cuts.residue_of R) ≡ Some c.in-Some.place = search rules in
    let told : IfSome fault (λ f. class path.context.forms path.context.width (cuts.rounding c.args.rows.now.width c.in-Some.place c.in_ok-key.key) c.args.work.now ≡ Refused f c.class_by_quotient.new.work) = c.in_err-class-in-Some.ensures.gives.agrees in
    let given = rw (c.requires.node.context, c.requires.node.scope, c.in_ok-key.ensures.value) at told in
    let p = err_from_is_err_and c.from_residual-in_err-class-in-Some.result c.from_residual-in_err-class-in-Some.ensures.1 in
    record {
      agrees = rw (p.1, p.2, found) (known_refused (setting_of c.args.rows.now path) (node_of c.args.rows.now path) c.args.i R c.in-Some.place c.args.work.now c.class_by_quotient.new.work fault given);
      counted = c.class_by_quotient.ensures.gives.counted;
    }
