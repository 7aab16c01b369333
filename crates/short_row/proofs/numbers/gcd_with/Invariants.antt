use Rattle.short_row.proofs.Words.{◌≡◌, drop, gcd, gcd_of, IsShortDivisor}
use Rattle.short_row.proofs.numbers.gcd_with.Given as goal

abbrev pub invariant-loop-number : goal.invariant-loop-number
invariant-loop-number l = record {
  value : gcd l.found (gcd_of (drop l.number-index l.entries)) ≡ gcd l.start (gcd_of l.entries);
  divisor : IsShortDivisor l.found;
}
