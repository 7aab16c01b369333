use Rattle.pip_reader.proofs.Words.{◌≡◌, ◌-◌, ◌≤◌, length, form_rows, with_front}
use Rattle.pip_reader.proofs.block.form_rows.Given as goal

abbrev pub invariant-loop : goal.invariant-loop
invariant-loop l =
    (with_front l.forms.items (form_rows l.bytes (l.block.rows - l.counter) l.block.width l.block.coefficients l.at) ≡ form_rows l.bytes l.block.rows l.block.width l.block.coefficients l.place)
    × (l.place ≤ l.at)
    × (l.at ≤ length l.bytes)
