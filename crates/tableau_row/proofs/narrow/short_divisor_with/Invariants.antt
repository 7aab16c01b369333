use Rattle.tableau_row.proofs.Words.{◌≡◌, ◌≤ℤ◌, pos, drop, gcd, gcd_of, IsShort}
use Rattle.tableau_row.proofs.narrow.short_divisor_with.Given as goal

abbrev pub invariant-loop-entry : goal.invariant-loop-entry
invariant-loop-entry l = record {
  value : gcd l.found (gcd_of (drop l.entry-index l.entries)) ≡ gcd l.start (gcd_of l.entries);
  positive : pos 1 ≤ℤ l.found;
  bound : l.found ≤ℤ l.start;
  short : IsShort l.found;
}
