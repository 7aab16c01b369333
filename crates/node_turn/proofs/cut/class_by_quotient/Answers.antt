use Rattle.node_turn.proofs.Words.{rules, arith, ◌≡◌, length-rounding}
use Rattle.pip_model.specs.Cuts as cuts
use Rattle.node_turn.proofs.cut.class_by_quotient.Goals as goal

pub class-requires : goal.class-requires
class-requires c =
    let same : c.in_ok-rounding.rounding ≡ cuts.rounding c.args.rows.now.width c.args.place c.args.key.now = search rules in
    let long = length-rounding c.args.rows.now.width c.args.place c.args.key.now (omega (arith, c.requires.width)) (omega (arith, c.requires.width)) (omega (arith, c.requires.place)) in
    rw same (omega (arith, long, c.requires.node.context))
