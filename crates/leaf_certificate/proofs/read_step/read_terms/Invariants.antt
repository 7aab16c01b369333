use Rattle.leaf_certificate.proofs.Words.{◌-◌, length, RightParen, term}
use Rattle.leaf_certificate.proofs.Sequences.{Reaches}
use Rattle.leaf_certificate.proofs.read_step.read_terms.Given as goal

abbrev pub invariant-loop-after : goal.invariant-loop-after
invariant-loop-after l = Reaches l.bytes RightParen (term l.bytes) l.place l.read l.at

abbrev pub decreases-loop-after : goal.decreases-loop-after
decreases-loop-after l = length l.bytes - l.at
