use Rattle.std.proofs.Common.{◌≡◌, ◌-◌, ◌≤◌, length, drop, vec_capacity}
use Rattle.std.specs.Prelude.{All}
use Rattle.affine_forms.specs.Checks.{Fits}
use Rattle.pip_model.specs.Reading.{numbers}
use Rattle.text_reading.specs.Fronts.{with_front}
use Rattle.text_reading.proofs.lists.all_but_last.Given as goal

abbrev pub invariant-loop : goal.invariant-loop
invariant-loop l = record {
  so_far : with_front l.read.items (numbers l.bytes (l.count - l.counter) (length l.bytes - length l.rest)) ≡ numbers l.bytes l.count l.place;
  count : length l.read.items ≡ l.counter;
  fits : All Fits l.read.items;
  rest : l.rest ≡ drop (length l.bytes - length l.rest) l.bytes;
  few : length l.rest ≤ length l.bytes;
  low : l.place ≤ length l.bytes - length l.rest;
  room : l.count ≤ vec_capacity l.read;
}
