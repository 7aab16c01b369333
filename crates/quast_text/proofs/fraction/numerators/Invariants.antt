use Rattle.quast_text.proofs.Words.{◌≡◌, take, map, All, Fits, numerator_of}
use Rattle.quast_text.proofs.fraction.numerators.Given as goal

abbrev pub invariant-loop-fraction : goal.invariant-loop-fraction
invariant-loop-fraction l = record {
  values : l.found.items ≡ map (numerator_of l.common) (take l.fraction-index l.fractions);
  fits : All Fits l.found.items;
}
