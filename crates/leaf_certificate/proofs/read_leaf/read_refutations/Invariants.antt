use Rattle.leaf_certificate.proofs.Words.{◌≡◌, ◌-◌, length, RightParen, step, list_of}
use Rattle.leaf_certificate.proofs.Sequences.{Reaches}
use Rattle.leaf_certificate.proofs.read_leaf.read_refutations.Given as goal

abbrev pub invariant-loop-after : goal.invariant-loop-after
invariant-loop-after l = record {
  reaches : Reaches l.bytes RightParen (list_of l.bytes (step l.bytes)) l.place l.read.refutations l.at;
  shared : l.read.shared ≡ l.fn.shared;
}

abbrev pub decreases-loop-after : goal.decreases-loop-after
decreases-loop-after l = length l.bytes - l.at
