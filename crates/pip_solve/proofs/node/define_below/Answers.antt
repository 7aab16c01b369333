use Rattle.pip_solve.proofs.Words.{arith, ap, ◌≡◌, ◌≤◌, ◌∷◌, [], map, length, common_steps, to_z-of_z, length-append, length-map, row_at, widened, TableauRows, Waiting}
use Rattle.pip_model.specs.Cuts as cuts
use Rattle.pip_solve.specs.declared.pending.Frame.TheVariants as frame
use Rattle.pip_solve.proofs.Going.{below_on}
use Rattle.pip_solve.proofs.Handing.{below_next, below_room}
use Rattle.pip_solve.proofs.node.define_below.Goals as goal

pub returns-clause-gives : goal.returns-clause-gives
returns-clause-gives c = λ w.
    let parm = frame.NewParm c.args.key.form c.args.key.den in
    let pushed : c.push.new.self ≡ record c.args.pending.now { frames = parm ∷ c.args.pending.now.frames } = grind (arith, common_steps, to_z-of_z, c.push.ensures, c.in_ok-form.ensures) in
    let on = below_on c.args.pending.now.most c.args.rows.now.width c.args.rows.now c.cut_below.new.rows c.args.path.now c.add_quotient.new.path c.args.pending.now.frames c.args.i c.args.key c.requires.running.waits c.requires.running.node.scope c.in_ok-cut_below.ensures c.in_ok-add_quotient.ensures w in
    rw pushed on

pub returns-clause-next : goal.returns-clause-next
returns-clause-next c =
    let parm = frame.NewParm c.args.key.form c.args.key.den in
    let pushed : c.push.new.self ≡ record c.args.pending.now { frames = parm ∷ c.args.pending.now.frames } = grind (arith, common_steps, to_z-of_z, c.push.ensures, c.in_ok-form.ensures) in
    let cut = c.in_ok-cut_below.ensures in
    let unknowns = ap (λ (t : TableauRows). t.unknowns) cut in
    let width = ap (λ (t : TableauRows). t.width) cut in
    let rows = ap (λ (t : TableauRows). length t.rows) cut in
    let added = length-append (map widened c.args.rows.now.rows) (cuts.parametric_cut (widened (row_at c.args.rows.now.rows c.args.i)) c.args.rows.now.width ∷ []) in
    let mapped = length-map c.args.rows.now.rows widened in
    let some : c.args.rows.now.unknowns ≤ length c.cut_below.new.rows.rows = omega (arith, rows, added, mapped, c.requires.running.node.rows) in
    rw pushed (below_next c.args.rows.now c.args.path.now c.add_quotient.new.path c.args.pending.now c.requires.running c.requires.nested c.requires.room c.cut_below.new.rows _ _ c.args.key c.args.i c.requires.parameter c.in_ok-add_quotient.ensures unknowns width some)

pub returns-clause-room : goal.returns-clause-room
returns-clause-room c =
    let room = below_room c.args.rows.now c.args.path.now c.add_quotient.new.path c.args.pending.now c.requires.running c.requires.nested c.requires.room _ _ c.args.key c.in_ok-add_quotient.ensures in
    omega (arith, (ap (λ (p : Waiting). p.most) c.push.ensures), room)
