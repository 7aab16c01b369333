use Rattle.pip_solve.proofs.Words.{rules, arith, ap, ◌≡◌, ◌+◌, ◌-◌, ◌∷◌, common_steps, to_z-of_z, NewParm, Waiting}
use Rattle.pip_solve.specs.declared.pending.Frame.TheVariants as frame
use Rattle.pip_solve.proofs.Popping.{popped, selected, defined, second_enters, second_room, second_next, second_same}
use Rattle.pip_solve.proofs.closing.close.Goals as goal

pub returns-in-SecondDue-clause-gives : goal.returns-in-SecondDue-clause-gives
returns-in-SecondDue-clause-gives c =
    let due = frame.SecondDue c.in-SecondDue.condition c.in-SecondDue.due c.in-SecondDue.context c.in-SecondDue.quotients in
    let e : c.loop-frame.pending ≡ record c.pop.new.self { frames = due ∷ c.pop.new.self.frames } = search rules in
    let h = popped c.args.tree c.args.path.now c.args.pending.now c.loop-frame.tree c.loop-frame.path c.loop-frame.pending c.pop.new.self due c.loop-frame.invariant e in
    let entered = c.in_ok-enter_opposite-in-SecondDue.ensures in
    let deep : c.loop-frame.path.depth - 1 + 1 ≡ c.loop-frame.path.depth = omega (arith, h.closing.depth) in
    let pushed = rw c.take_rows.ensures.kept at c.push.ensures in
    rw c.take_rows.ensures.rows (second_same c.args.tree c.args.path.now c.args.pending.now c.loop-frame.tree c.loop-frame.path c.pop.new.self (c.loop-frame.path.depth - 1) c.in-SecondDue.condition c.in-SecondDue.due c.in-SecondDue.context c.in-SecondDue.quotients h c.back_to.new.self c.enter_opposite.new.self c.push.new.self deep c.back_to.ensures entered pushed)

pub enter_opposite-requires-clause-room : goal.enter_opposite-requires-clause-room
enter_opposite-requires-clause-room c =
    let due = frame.SecondDue c.in-SecondDue.condition c.in-SecondDue.due c.in-SecondDue.context c.in-SecondDue.quotients in
    let e : c.loop-frame.pending ≡ record c.pop.new.self { frames = due ∷ c.pop.new.self.frames } = search rules in
    let h = popped c.args.tree c.args.path.now c.args.pending.now c.loop-frame.tree c.loop-frame.path c.loop-frame.pending c.pop.new.self due c.loop-frame.invariant e in
    let deep : c.loop-frame.path.depth - 1 + 1 ≡ c.loop-frame.path.depth = omega (arith, h.closing.depth) in
    second_enters c.args.tree c.args.path.now c.args.pending.now c.loop-frame.tree c.loop-frame.path c.pop.new.self (c.loop-frame.path.depth - 1) c.in-SecondDue.condition c.in-SecondDue.due c.in-SecondDue.context c.in-SecondDue.quotients h c.back_to.new.self deep c.back_to.ensures

pub returns-in-SecondDue-clause-room : goal.returns-in-SecondDue-clause-room
returns-in-SecondDue-clause-room c =
    let due = frame.SecondDue c.in-SecondDue.condition c.in-SecondDue.due c.in-SecondDue.context c.in-SecondDue.quotients in
    let e : c.loop-frame.pending ≡ record c.pop.new.self { frames = due ∷ c.pop.new.self.frames } = search rules in
    let h = popped c.args.tree c.args.path.now c.args.pending.now c.loop-frame.tree c.loop-frame.path c.loop-frame.pending c.pop.new.self due c.loop-frame.invariant e in
    let entered = c.in_ok-enter_opposite-in-SecondDue.ensures in
    let deep : c.loop-frame.path.depth - 1 + 1 ≡ c.loop-frame.path.depth = omega (arith, h.closing.depth) in
    let most = ap (λ (p : Waiting). p.most) c.push.ensures in
    let room = second_room c.args.tree c.args.path.now c.args.pending.now c.loop-frame.tree c.loop-frame.path c.pop.new.self (c.loop-frame.path.depth - 1) c.in-SecondDue.condition c.in-SecondDue.due c.in-SecondDue.context c.in-SecondDue.quotients h c.back_to.new.self c.enter_opposite.new.self deep c.back_to.ensures entered in
    omega (arith, most, room, (ap (λ (p : Waiting). p.most) c.take_rows.ensures.kept))

pub returns-in-SecondDue-clause-next : goal.returns-in-SecondDue-clause-next
returns-in-SecondDue-clause-next c =
    let due = frame.SecondDue c.in-SecondDue.condition c.in-SecondDue.due c.in-SecondDue.context c.in-SecondDue.quotients in
    let e : c.loop-frame.pending ≡ record c.pop.new.self { frames = due ∷ c.pop.new.self.frames } = search rules in
    let h = popped c.args.tree c.args.path.now c.args.pending.now c.loop-frame.tree c.loop-frame.path c.loop-frame.pending c.pop.new.self due c.loop-frame.invariant e in
    let entered = c.in_ok-enter_opposite-in-SecondDue.ensures in
    let deep : c.loop-frame.path.depth - 1 + 1 ≡ c.loop-frame.path.depth = omega (arith, h.closing.depth) in
    let pushed = rw c.take_rows.ensures.kept at c.push.ensures in
    rw c.take_rows.ensures.rows (second_next c.args.tree c.args.path.now c.args.pending.now c.loop-frame.tree c.loop-frame.path c.pop.new.self (c.loop-frame.path.depth - 1) c.in-SecondDue.condition c.in-SecondDue.due c.in-SecondDue.context c.in-SecondDue.quotients h c.back_to.new.self c.enter_opposite.new.self c.push.new.self deep c.back_to.ensures entered pushed)

pub loop-frame-preserved-in-FirstMade : goal.loop-frame-preserved-in-FirstMade
loop-frame-preserved-in-FirstMade c =
    let made = frame.FirstMade c.in-FirstMade.condition c.in-FirstMade.first in
    let e : c.loop-frame.pending ≡ record c.pop.new.self { frames = made ∷ c.pop.new.self.frames } = search rules in
    let h = popped c.args.tree c.args.path.now c.args.pending.now c.loop-frame.tree c.loop-frame.path c.loop-frame.pending c.pop.new.self made c.loop-frame.invariant e in
    let deep : c.loop-frame.path.depth - 1 + 1 ≡ c.loop-frame.path.depth = omega (arith, h.closing.depth) in
    selected c.args.tree c.args.path.now c.args.pending.now c.loop-frame.tree c.loop-frame.path c.pop.new.self (c.loop-frame.path.depth - 1) c.in-FirstMade.condition c.in-FirstMade.first h c.in_ok-tree-in-FirstMade.tree c.in_ok-tree-in-FirstMade.ensures deep

pub loop-frame-preserved : goal.loop-frame-preserved
loop-frame-preserved c =
    let parm = frame.NewParm c.in-NewParm.form c.in-NewParm.den in
    let e : c.loop-frame.pending ≡ record c.pop.new.self { frames = parm ∷ c.pop.new.self.frames } = search rules in
    let h = popped c.args.tree c.args.path.now c.args.pending.now c.loop-frame.tree c.loop-frame.path c.loop-frame.pending c.pop.new.self parm c.loop-frame.invariant e in
    let deep : c.loop-frame.path.depth - 1 + 1 ≡ c.loop-frame.path.depth = omega (arith, h.closing.depth) in
    let made : c.in_ok-tree-in-NewParm.tree.tree ≡ NewParm c.in-NewParm.form c.in-NewParm.den c.loop-frame.tree.tree = grind (arith, common_steps, to_z-of_z, c.in_ok-tree-in-NewParm.ensures) in
    defined c.args.tree c.args.path.now c.args.pending.now c.loop-frame.tree c.loop-frame.path c.pop.new.self (c.loop-frame.path.depth - 1) c.in-NewParm.form c.in-NewParm.den h c.in_ok-tree-in-NewParm.tree c.in_ok-tree-in-NewParm.ensures.1 made deep
