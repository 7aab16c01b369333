use Rattle.node_turn.proofs.Words.{arith, ◌≡◌, ◌∙◌, refl, sym, ap, subst, List, ℤ, IfSome, common_steps, AllPlus, Done, Refused, turn_by, AgreesCounted, run_fault, counted_on, size, node_of, setting_of, signs_of, scanned, turn_of}
use Rattle.node_turn.proofs.Scanning.{turn_on, turn_refused}
use Rattle.node_turn.proofs.Turned.{in_context, agrees_same}
use Rattle.node_turn.proofs.turn.take_turn.Goals as goal

pub returns-in_err-signs-clause-gives : goal.returns-in_err-signs-clause-gives
returns-in_err-signs-clause-gives c =
    let path = c.args.path.now in
    let S = setting_of c.args.rows.now path in
    let N = node_of c.args.rows.now path in
    let wide : path.context.width ≡ size path.quotients = c.requires.node.context ∙ c.requires.node.scope in
    let told = subst (λ n. IfSome (run_fault c.in_err-signs.field-0.0) (λ f. scanned path.context.forms n 0 AllPlus c.args.rows.now.rows c.args.work.now ≡ Refused f c.scan.new.work)) wide c.in_err-signs.ensures.gives.agrees in
    let fault = turn_refused S N refl c.args.work.now c.scan.new.work (run_fault c.in_err-signs.field-0.0) told in
    record { agrees = grind (arith, common_steps, fault); counted = c.scan.ensures.gives.counted }

pub returns-clause-gives : goal.returns-clause-gives
returns-clause-gives c =
    let path = c.args.path.now in
    let there = record path { context = c.scan.new.context } in
    let S = setting_of c.args.rows.now path in
    let N = node_of c.args.rows.now path in
    let signs = signs_of c.in_ok-signs.signs in
    let wide : path.context.width ≡ size path.quotients = c.requires.node.context ∙ c.requires.node.scope in
    let told = subst (λ n. scanned path.context.forms n 0 AllPlus c.args.rows.now.rows c.args.work.now ≡ Done signs c.scan.new.work) wide c.in_ok-signs.ensures.gives.agrees in
    let on = turn_on S N refl c.args.work.now c.scan.new.work signs told in
    let same = ap (λ (fs : List (List ℤ)). turn_by S (record N { context = fs }) signs c.scan.new.work) c.scan.ensures.kept.forms in
    let acted = subst (AgreesCounted (turn_of c.act.new.rows there) run_fault c.act.result c.act.new.work) (same ∙ sym on) c.act.ensures.gives.agrees in
    record {
      agrees = agrees_same (turn_of c.act.new.rows there) (turn_of c.act.new.rows path) (in_context c.act.new.rows path c.scan.new.context c.scan.ensures.kept.forms) run_fault c.act.result c.act.new.work _ acted;
      counted = counted_on c.args.work.now c.scan.new.work c.act.new.work c.scan.ensures.gives.counted c.act.ensures.gives.counted;
    }
