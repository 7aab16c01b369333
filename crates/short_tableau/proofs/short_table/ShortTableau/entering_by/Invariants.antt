use Rattle.short_tableau.proofs.Words.{◌≡◌, take, IfSome, row_of, choice, candidates, candidates_from, IsCandidate, entering_of}
use Rattle.short_tableau.proofs.short_table.ShortTableau.entering_by.Given as goal

abbrev pub invariant-loop-k : goal.invariant-loop-k
invariant-loop-k l = record {
  value : choice (take l.self.unknowns l.self.rows) (row_of l.p) l.best (candidates_from (row_of l.p) l.k) ≡ entering_of (take l.self.unknowns l.self.rows) (row_of l.p) (candidates (row_of l.p));
  candidate : IfSome l.best (IsCandidate l.self.unknowns (row_of l.p));
}
