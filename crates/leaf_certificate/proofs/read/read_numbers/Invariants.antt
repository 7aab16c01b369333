use Rattle.leaf_certificate.proofs.Words.{◌-◌, length, All, Fits, RightRow, number}
use Rattle.leaf_certificate.proofs.Sequences.{Reaches}
use Rattle.leaf_certificate.proofs.read.read_numbers.Given as goal

abbrev pub invariant-loop-read : goal.invariant-loop-read
invariant-loop-read l = record {
  reaches : Reaches l.bytes RightRow (number l.bytes) l.place l.read.items l.at;
  fits : All Fits l.read.items;
}

abbrev pub decreases-loop-read : goal.decreases-loop-read
decreases-loop-read l = length l.bytes - l.at
