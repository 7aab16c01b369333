use Rattle.pip_solve.proofs.Words.{◌+◌, ◌*◌, left, HasRoom, dues, AreKnown}
use Rattle.pip_solve.proofs.Handing.{GoesOn}
use Rattle.pip_solve.proofs.node.run.Given as goal

abbrev pub invariant-loop-turn : goal.invariant-loop-turn
invariant-loop-turn l = record {
  on : GoesOn l.fn.rows l.fn.path l.fn.rooms.pending l.fn.work l.rows l.path l.rooms.pending l.work;
  room : HasRoom l.rooms.pending.most l.path;
  known : AreKnown l.path.context.forms l.path.context.width l.work.budget l.rooms.known;
}

abbrev pub decreases-loop-turn : goal.decreases-loop-turn
decreases-loop-turn l = 2 * left l.work + dues l.rooms.pending.frames
