-- The trace after a turn, by the row and the column that it took.
use Rattle.std.proofs.Common.{◌≡◌, refl, ap, ◌∙◌, ℕ, ◌+◌, Bool, true, false, Option, Some, None, List, [], ◌∷◌, slice_set}
use Rattle.std.specs.Prelude.{if◌then◌else◌}
use Rattle.pip_model.specs.Forms.{constant, entry}
use Rattle.pip_model.specs.Numbers.{is_nonneg}
use Rattle.pip_model.specs.Refuting.{Trace, traced, pivot_trace, cut_trace, with_step, last_step}
use Rattle.pip_model.specs.Rows.{Row, row_at, entering, first_fraction}
use Rattle.pip_model.specs.Run.{MinusAt}
use Rattle.refutation_laws.proofs.RefuteSteps.{next_trace, signs_from}
use Rattle.point_turns.specs.Turns.{node_of, negative_from}
use Rattle.point_turns.proofs.Turning.{signs_of}
use Rattle.point_turns.specs.Traces.{with_cut}

signs-same : (i : ℕ) (rows : List Row) → signs_from i rows ≡ signs_of (negative_from i rows)
signs-same i [] = refl
signs-same i (r ∷ rows) = by (is_nonneg (constant r.constant)) (signs-same (i + 1) rows)
  where
    by : (t : Bool) → signs_from (i + 1) rows ≡ signs_of (negative_from (i + 1) rows)
        → (if t then signs_from (i + 1) rows else MinusAt i) ≡ signs_of (if t then negative_from (i + 1) rows else Some i)
    by true e = e
    by false e = refl

module _ (n : ℕ) (rows : List Row) (T : Trace) where
  next-by : (o : Option ℕ) → negative_from 0 rows ≡ o → next_trace n (node_of rows) T ≡ traced n rows (signs_of o) T
  next-by o e = ap (λ s. traced n rows s T) (signs-same 0 rows) ∙ ap (λ p. traced n rows (signs_of p) T) e

  pub next-bottom : (r : ℕ) → negative_from 0 rows ≡ Some r → entering rows r ≡ None → next_trace n (node_of rows) T ≡ with_step T (last_step (row_at rows r) (entry T.rows r) T.columns)
  next-bottom r e f = next-by (Some r) e ∙ ap (pivot_trace T rows r) f

  pub next-pivot : (r c : ℕ) → negative_from 0 rows ≡ Some r → entering rows r ≡ Some c → next_trace n (node_of rows) T ≡ record T { columns = slice_set T.columns c (entry T.rows r) }
  next-pivot r c e f = next-by (Some r) e ∙ ap (pivot_trace T rows r) f

  pub next-cut : (i : ℕ) → negative_from 0 rows ≡ None → first_fraction n rows ≡ Some i → next_trace n (node_of rows) T ≡ with_cut T (row_at rows i)
  next-cut i e f = next-by None e ∙ ap (cut_trace T rows) f
