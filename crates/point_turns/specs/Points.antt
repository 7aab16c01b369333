-- What the run without parameters of some forms or rows finds.
use Rattle.std.specs.Prelude.{◌≡◌, ℕ, ◌≤◌, ℤ, Bool, true, false, Option, Some, None, ◌&&◌, is_none, is_some, List, ◌++◌, length, map}
use Rattle.pip_model.specs.Forms.{widen_to}
use Rattle.pip_model.specs.Tree.{Tree, Bottom}
use Rattle.pip_model.specs.Rows.{Row, form_row, start, first_fraction}
use Rattle.pip_model.specs.Run.{Work, Counted, Done, ◌>>=◌, give, Again, turn, leaf, run_from, numbers_of, point, point_setting}
use Rattle.point_turns.specs.Turns.{negative_from, node_of}

-- whether a context has a point
abbrev pub has_point : ℕ → List (List ℤ) → Counted Bool
has_point w K = do
  p ← point w K
  give (is_some p)

-- the point that the run without parameters of these rows finds
abbrev pub point_of : ℕ → List Row → Counted (Option (List ℤ))
point_of n rows = do
  t ← run_from (point_setting n) (node_of rows)
  give (numbers_of t)

-- whether the run without parameters of these rows finds a point
abbrev pub finds_point : ℕ → List Row → Counted Bool
finds_point n rows = do
  t ← run_from (point_setting n) (node_of rows)
  give (is_some (numbers_of t))

-- the tree of a run that ended at these rows, with a point or without one
abbrev pub ended : ℕ → List Row → Bool → Tree
ended n rows true = leaf (point_setting n) (node_of rows)
ended n rows false = Bottom

-- the run of these rows ends at them with a point: no row is below 0, and those of the unknowns are whole
abbrev pub is_end : ℕ → List Row → Bool
is_end n rows = is_none (negative_from 0 rows) && is_none (first_fraction n rows)

-- the rows of forms
abbrev pub form_rows : ℕ → List (List ℤ) → List Row
form_rows n M = map (form_row n) (map (widen_to n) M)

-- the first rows of a point's run
abbrev pub first_rows : ℕ → List (List ℤ) → List Row
first_rows n K = start n 0 (map (widen_to n) K)

-- where a run shows a point, it ends at once with these rows behind its own, with a point or without one
abbrev pub EndsWith : List Row → Bool → Type 0
EndsWith now found =
    (n : ℕ) (E : List Row) (v : Work) → n ≤ length E → is_end n E ≡ true → finds_point n (E ++ now) v ≡ Done found v

-- what a turn of a question's run made of these rows: it ends the run, with a point or without one, or goes on
abbrev pub IsTurnOf : ℕ → List Row → List Row → Work → Work → Option Bool → Type 0
IsTurnOf n rows now w v None = turn (point_setting n) (node_of rows) w ≡ Done (Again (node_of now)) v
IsTurnOf n rows now w v (Some found) = finds_point n rows w ≡ Done found v
