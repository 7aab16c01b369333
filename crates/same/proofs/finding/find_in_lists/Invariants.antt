use Rattle.same.proofs.Words.{◌≡◌, ℕ, drop, same_lists, IsKeptContext, visit_of}
use Rattle.same.proofs.finding.find_in_lists.Given as goal

abbrev pub invariant-loop-i : goal.invariant-loop-i
invariant-loop-i l = record {
  compared : (depth : ℕ) → same_lists l.reading.parameters (visit_of l.initial.context depth) l.first l.second l.initial.work ≡ same_lists l.reading.parameters (visit_of l.initial.context depth) (drop l.i l.first) (drop l.i l.second) l.work;
  kept : IsKeptContext l.initial.context l.context;
}
