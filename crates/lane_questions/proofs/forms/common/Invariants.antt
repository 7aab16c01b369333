use Rattle.lane_questions.proofs.Words.{◌≡◌, pos, ◌≤ℤ◌, drop, gcd, gcd_of}
use Rattle.lanes.specs.Narrow.{IsNarrow}
use Rattle.lane_questions.proofs.forms.common.Given as goal

abbrev pub invariant-loop-k : goal.invariant-loop-k
invariant-loop-k l = record { value : gcd l.found (gcd_of (drop l.k l.form)) ≡ gcd_of (drop 1 l.form); low : pos 0 ≤ℤ l.found; narrow : IsNarrow l.found }
