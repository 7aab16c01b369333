use Rattle.short_row.proofs.Words.{◌≡◌, All, gcd, gcd_of, IsShort, IsHalfDivisor, scaled_front}
use Rattle.short_row.proofs.whole.divide_common.Given as goal

abbrev pub invariant-loop-i : goal.invariant-loop-i
invariant-loop-i l = record {
  value : scaled_front l.divisor l.entries l.i ≡ l.fn.entries;
  common : gcd l.divisor (gcd_of l.fn.entries) ≡ gcd l.d (gcd_of l.fn.entries);
  divisor : IsHalfDivisor l.divisor;
  short : All IsShort l.entries;
}
