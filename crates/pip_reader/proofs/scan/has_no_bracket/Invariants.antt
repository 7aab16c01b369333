use Rattle.pip_reader.proofs.Words.{◌≡◌, ◌<◌, ℕ, get_or, true, false, NoBracket}
use Rattle.pip_reader.proofs.scan.has_no_bracket.Given as goal

abbrev pub invariant-loop-byte : goal.invariant-loop-byte
invariant-loop-byte l = record {
  none : l.found ≡ false → (k : ℕ) → k < l.byte-index → NoBracket (get_or l.bytes k 0);
  some : l.found ≡ true → ((k : ℕ) → k < l.byte-index → NoBracket (get_or l.bytes k 0)) → ⊥;
}
