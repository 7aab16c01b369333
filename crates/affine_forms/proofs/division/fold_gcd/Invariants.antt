use Rattle.affine_forms.proofs.Words.{◌≡◌, ◌≤ℤ◌, pos, drop, gcd, gcd_of, Fits}
use Rattle.affine_forms.proofs.division.fold_gcd.Given as goal

abbrev pub invariant-loop-entry : goal.invariant-loop-entry
invariant-loop-entry l =
    (gcd l.found (gcd_of (drop l.entry-index l.entries)) ≡ gcd l.start (gcd_of l.entries)) × (pos 0 ≤ℤ l.found) × Fits l.found × (pos 1 ≤ℤ l.start → (pos 1 ≤ℤ l.found) × (l.found ≤ℤ l.start))
