use Rattle.short_row.proofs.Words.{◌≡◌, drop, gcd, gcd_of, IsDivisor}
use Rattle.short_row.proofs.wide.gcd_with_made.Given as goal

abbrev pub invariant-loop-number : goal.invariant-loop-number
invariant-loop-number l = record {
  value : gcd l.found (gcd_of (drop l.number-index l.entries)) ≡ gcd l.start (gcd_of l.entries);
  divisor : IsDivisor l.found;
}
