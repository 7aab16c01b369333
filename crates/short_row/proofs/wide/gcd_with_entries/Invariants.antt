use Rattle.short_row.proofs.Words.{◌≡◌, drop, combine, gcd, gcd_of, IsDivisor}
use Rattle.short_row.proofs.wide.gcd_with_entries.Given as goal

abbrev pub invariant-loop-i : goal.invariant-loop-i
invariant-loop-i l = record {
  value : gcd l.found (gcd_of (drop l.i (combine l.by.of_row l.r l.by.of_pivot l.s))) ≡ gcd l.start (gcd_of (combine l.by.of_row l.r l.by.of_pivot l.s));
  divisor : IsDivisor l.found;
}
