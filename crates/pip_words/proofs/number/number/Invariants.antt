use Rattle.pip_words.proofs.Words.{◌≡◌, ◌≤◌, take, true, list_all, is_digit, natural_of}
use Rattle.pip_words.proofs.number.number.Given as goal

abbrev pub invariant-loop-byte : goal.invariant-loop-byte
invariant-loop-byte l = record {
  value : l.value ≡ natural_of (take l.byte-index l.text);
  digits : list_all is_digit (take l.byte-index l.text) ≡ true;
  within : l.value ≤ l.most;
}
