use Rattle.short_tableau.proofs.Words.{◌≡◌, ℕ, ◌<◌, false, entry, row_at, eliminated, is_positive, row_of}
use Rattle.short_tableau.proofs.short_table.ShortTableau.has_positive_after.Given as goal

abbrev pub invariant-loop-k : goal.invariant-loop-k
invariant-loop-k l = (k : ℕ) → k < l.k → is_positive (entry (eliminated (row_of l.p) l.c (row_at l.self.rows l.i)).coefs k) ≡ false
