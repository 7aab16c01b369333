use Rattle.std.proofs.Common.{◌≡◌, ◌-◌, ◌≤◌, length}
use Rattle.pip_model.specs.Reading.{rows}
use Rattle.text_reading.specs.Fronts.{with_front}
use Rattle.text_reading.proofs.lists.rows_in.Given as goal

abbrev pub invariant-loop : goal.invariant-loop
invariant-loop l =
    (with_front l.forms.items (rows l.bytes (l.count - l.counter) l.width l.at) ≡ rows l.bytes l.count l.width l.place)
    × (l.place ≤ l.at)
    × (l.at ≤ length l.bytes)
