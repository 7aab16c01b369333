use Rattle.leaf_certificate.proofs.Words.{◌-◌, length, RightParen, step}
use Rattle.leaf_certificate.proofs.Sequences.{Reaches}
use Rattle.leaf_certificate.proofs.read_step.read_steps.Given as goal

abbrev pub invariant-loop-alloc : goal.invariant-loop-alloc
invariant-loop-alloc l = Reaches l.bytes RightParen (step l.bytes) l.place l.read l.at

abbrev pub decreases-loop-alloc : goal.decreases-loop-alloc
decreases-loop-alloc l = length l.bytes - l.at
