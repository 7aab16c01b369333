use Rattle.tableau_row.proofs.Words.{◌≡◌, ◌+◌, ◌≤◌, ◌++◌, take, vec_len, vec_capacity, negate}
use Rattle.tableau_row.proofs.append.append_negated.Given as goal

abbrev pub invariant-loop-entry : goal.invariant-loop-entry
invariant-loop-entry l = record {
  items : l.numbers.items ≡ l.fn.numbers.items ++ negate (take l.entry-index l.entries);
  length : vec_len l.numbers ≡ vec_len l.fn.numbers + l.entry-index;
  room : vec_capacity l.fn.numbers ≤ vec_capacity l.numbers;
}
