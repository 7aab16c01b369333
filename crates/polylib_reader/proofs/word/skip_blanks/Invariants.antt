use Rattle.polylib_reader.proofs.Words.{◌≡◌, drop, false, skipped}
use Rattle.polylib_reader.proofs.word.skip_blanks.Given as goal

abbrev pub invariant-loop-place : goal.invariant-loop-place
invariant-loop-place l = skipped l.comment (drop l.place l.bytes) ≡ skipped false l.bytes
