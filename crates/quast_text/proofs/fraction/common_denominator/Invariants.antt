use Rattle.quast_text.proofs.Words.{◌≡◌, ◌≤ℤ◌, pos, drop, all_fit, common_denominators, last_of, Fits}
use Rattle.quast_text.proofs.fraction.common_denominator.Given as goal

abbrev pub invariant-loop-fraction : goal.invariant-loop-fraction
invariant-loop-fraction l = record {
  positive : pos 1 ≤ℤ l.common;
  fits : Fits l.common;
  fit : all_fit (common_denominators l.common (drop l.fraction-index l.fractions)) ≡ all_fit (common_denominators (pos 1) l.fractions);
  last : last_of l.common (common_denominators l.common (drop l.fraction-index l.fractions)) ≡ last_of (pos 1) (common_denominators (pos 1) l.fractions);
}
