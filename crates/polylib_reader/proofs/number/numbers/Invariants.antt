use Rattle.polylib_reader.proofs.Words.{◌≡◌, ◌-◌, ◌≤◌, length, All, Fits, matrix_numbers, with_front}
use Rattle.polylib_reader.proofs.number.numbers.Given as goal

abbrev pub invariant-loop : goal.invariant-loop
invariant-loop l = record {
  so_far : with_front l.read.items (matrix_numbers l.bytes (l.count - l.counter) l.at) ≡ matrix_numbers l.bytes l.count l.place;
  count : length l.read.items ≡ l.counter;
  fits : All Fits l.read.items;
  behind : l.place ≤ l.at;
  within : l.at ≤ length l.bytes;
}
