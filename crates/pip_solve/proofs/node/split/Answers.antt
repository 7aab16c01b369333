use Rattle.pip_solve.proofs.Words.{arith, ap, subst, ◌≡◌, ◌∷◌, Waiting}
use Rattle.pip_solve.specs.declared.pending.Frame.TheVariants as frame
use Rattle.pip_solve.proofs.Going.{split_on}
use Rattle.pip_solve.proofs.Handing.{split_next, split_room}
use Rattle.pip_solve.proofs.node.split.Goals as goal

pub returns-clause-gives : goal.returns-clause-gives
returns-clause-gives c = λ w.
    let due = frame.SecondDue c.args.condition c.args.rows.now c.mark-context.result c.mark-quotients.result in
    let pushed : c.push.new.self ≡ record c.args.pending.now { frames = due ∷ c.args.pending.now.frames } = subst (λ t. c.push.new.self ≡ record c.args.pending.now { frames = frame.SecondDue c.args.condition t c.mark-context.result c.mark-quotients.result ∷ c.args.pending.now.frames }) c.in_ok-later.ensures.value (rw c.copy_rows.ensures.kept at c.push.ensures) in
    let entered = c.in_ok-enter_copy.ensures in
    let on = split_on c.args.pending.now.most c.args.rows.now.width c.args.rows.now c.args.path.now c.enter_copy.new.self c.args.pending.now.frames c.args.condition c.mark-context.result c.mark-quotients.result c.requires.running.waits entered c.mark-context.ensures.forms c.mark-quotients.ensures c.requires.running.depth w in
    rw pushed on

pub returns-clause-next : goal.returns-clause-next
returns-clause-next c =
    let due = frame.SecondDue c.args.condition c.args.rows.now c.mark-context.result c.mark-quotients.result in
    let pushed : c.push.new.self ≡ record c.args.pending.now { frames = due ∷ c.args.pending.now.frames } = subst (λ t. c.push.new.self ≡ record c.args.pending.now { frames = frame.SecondDue c.args.condition t c.mark-context.result c.mark-quotients.result ∷ c.args.pending.now.frames }) c.in_ok-later.ensures.value (rw c.copy_rows.ensures.kept at c.push.ensures) in
    let entered = c.in_ok-enter_copy.ensures in
    rw pushed (split_next c.args.rows.now c.args.path.now c.enter_copy.new.self c.args.pending.now c.requires.running c.requires.nested c.requires.room c.args.condition c.mark-context.result c.mark-quotients.result c.requires.condition entered c.mark-context.ensures.forms c.mark-context.ensures.width c.mark-context.ensures.narrow c.mark-quotients.ensures)

pub returns-clause-room : goal.returns-clause-room
returns-clause-room c =
    let entered = c.in_ok-enter_copy.ensures in
    let room = split_room c.args.rows.now c.args.path.now c.enter_copy.new.self c.args.pending.now c.requires.running c.requires.nested c.requires.room c.args.condition entered in
    omega (arith, (ap (λ (p : Waiting). p.most) (rw c.copy_rows.ensures.kept at c.push.ensures)), room)
