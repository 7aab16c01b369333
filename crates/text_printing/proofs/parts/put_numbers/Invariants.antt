use Rattle.std.proofs.Common.{◌≡◌, ◌++◌, take, flat_map}
use Rattle.text_printing.specs.Printing.{spell_entry}
use Rattle.text_printing.proofs.parts.put_numbers.Given as goal

abbrev pub invariant-loop-number : goal.invariant-loop-number
invariant-loop-number l = l.out.items ≡ l.initial.out.items ++ flat_map spell_entry (take l.number-index l.numbers)
