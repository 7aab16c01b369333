use Rattle.pip_reader.proofs.Words.{◌≡◌, ◌+◌, ◌≤◌, length, most_context_rows, context_rows, with_front}
use Rattle.pip_reader.proofs.context.context_rows.Given as goal

abbrev pub invariant-loop-read : goal.invariant-loop-read
invariant-loop-read l = record {
  so_far : with_front l.read.forms (context_rows l.bytes (l.np + 1) l.left l.at) ≡ context_rows l.bytes (l.np + 1) most_context_rows l.place;
  width : l.read.width ≡ l.np;
  low : l.place ≤ l.at;
  high : l.at ≤ length l.bytes;
}

abbrev pub decreases-loop-read : goal.decreases-loop-read
decreases-loop-read l = l.left
