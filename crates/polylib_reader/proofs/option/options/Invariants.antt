use Rattle.polylib_reader.proofs.Words.{◌≡◌, ◌-◌, ◌≤◌, length, true, options}
use Rattle.polylib_reader.proofs.option.options.Given as goal

abbrev pub invariant-loop : goal.invariant-loop
invariant-loop l = record {
  so_far : options l.bytes (length l.bytes - l.counter) l.integer l.at ≡ options l.bytes (length l.bytes) true l.place;
  within : l.at ≤ length l.bytes;
}
