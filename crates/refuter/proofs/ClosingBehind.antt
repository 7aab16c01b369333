-- Where a run shows a point, the first row behind its own that is below 0 refutes where no column enters there.
use Rattle.refuter.proofs.Words.{◌≡◌, ◌∙◌, ap, ℕ, ◌+◌, true, Some, List, ◌++◌, length, entry, Row, row_at, Bottom, Work, Done, Trace, refute_from, with_step, last_step, refute-closed, node_of, is_end, IsClosing}
use Rattle.short_run.proofs.Ending.{no_column, closes}
use Rattle.kept_run.proofs.NextTraces.{next-bottom}
use Rattle.kept_run.proofs.EndingBehind.{row_here, below_here, free_here}

module _ (n : ℕ) (E S : List Row) (r : ℕ) (is : IsClosing S r) (end : is_end n E ≡ true) where
  abbrev rows : List Row
  rows = E ++ S

  abbrev k : ℕ
  k = length E + r

  pub refuted-behind : (T : Trace) (v : Work)
      → refute_from n T (node_of (E ++ S)) v ≡ Done (Some (with_step T (last_step (row_at S r) (entry T.rows (length E + r)) T.columns)).steps) v
  refuted-behind T v =
      let below = below_here n E S r is end in
      let free = free_here n E S r is end in
      refute-closed n T (node_of rows) Bottom v v (closes n rows k below free v)
      ∙ ap (λ (X : Trace). Done (Some X.steps) v)
      (next-bottom n rows T k below (no_column n rows k below free)
      ∙ ap (λ (R : Row). with_step T (last_step R (entry T.rows (length E + r)) T.columns)) (row_here n E S r is end))
