use Rattle.std.proofs.Common.{take}
use Rattle.short_numbers.specs.Nonzeros.{AreNonzeros}
use Rattle.short_numbers.proofs.nonzeros.nonzeros_of.Given as goal

abbrev pub invariant-loop-i : goal.invariant-loop-i
invariant-loop-i l = AreNonzeros (take l.i l.numbers) l.found
