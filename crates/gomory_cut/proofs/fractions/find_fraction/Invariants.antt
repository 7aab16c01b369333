use Rattle.gomory_cut.proofs.Words.{◌≡◌, drop, take, fraction_from, first_fraction}
use Rattle.gomory_cut.proofs.fractions.find_fraction.Given as goal

abbrev pub invariant-loop-i : goal.invariant-loop-i
invariant-loop-i l = fraction_from l.i (drop l.i (take l.t.unknowns l.t.rows)) ≡ first_fraction l.t.unknowns l.t.rows
