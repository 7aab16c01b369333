use Rattle.leaf_certificate.proofs.Words.{◌≡◌, ◌-◌, length, RightParen, leaf_proofs}
use Rattle.leaf_certificate.proofs.Sequences.{Reaches}
use Rattle.leaf_certificate.proofs.read_leaf.read_leaves.Given as goal

abbrev pub invariant-loop-after : goal.invariant-loop-after
invariant-loop-after l = record {
  reaches : Reaches l.bytes RightParen (leaf_proofs l.bytes l.fn.start.shares) l.place l.read.leaves l.at;
  shares : l.read.shares ≡ l.fn.start.shares;
  vector : l.read.vector ≡ l.fn.start.vector;
}

abbrev pub decreases-loop-after : goal.decreases-loop-after
decreases-loop-after l = length l.bytes - l.at
