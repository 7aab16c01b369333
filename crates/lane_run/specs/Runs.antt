-- The rows of a point's run, of which those of the columns and of the cuts stand in a table; those of forms are read off.
use Rattle.std.specs.Prelude.{◌≡◌, ℕ, ◌+◌, ◌^◌, ◌<◌, ℤ, Some, List, length, map, take, drop, All}
use Rattle.pip_model.specs.Rows.{Row, row_at, divided}
use Rattle.form_laws.specs.Bounds.{norm}
use Rattle.form_laws.specs.ByForm.{rows_by}
use Rattle.scaled_laws.specs.Kept.{kept_of}
use Rattle.scaled_laws.specs.Scaled.{row_over}
use Rattle.scaled_laws.specs.Tables.{ScaledTable}
use Rattle.point_turns.specs.Turns.{negative_from}
use Rattle.lanes.specs.Narrow.{AreLanes}
use Rattle.lane_rows.specs.Laned.{numbers_of, AreUnused}

-- forms over n places by their lanes
abbrev pub forms_of : ℕ → List (List ℤ) → List (List ℤ)
forms_of n forms = map (numbers_of n) forms

-- the rows of the columns, of these forms over them, and of the cuts
abbrev pub run_rows : ScaledTable → List (List ℤ) → List Row
run_rows t F = rows_by t.unknowns 0 t.scale (take t.unknowns t.rows) (kept_of F (drop t.unknowns t.rows))

-- a form over n places, whose row has 63 bits wherever the columns' rows have 31
pub record IsModest (n : ℕ) (f : List ℤ) : Type 0 where
  pub long : length f ≡ n + 1
  pub norm : norm f < 2 ^ 31

abbrev pub AreModest : ℕ → List (List ℤ) → Type 0
AreModest n F = All (IsModest n) F

-- these lanes are the numbers of the first row below 0
pub record IsRowBelow (t : ScaledTable) (F : List (List ℤ)) (row : List ℤ) : Type 0 where
  pub place : ℕ
  pub first : negative_from 0 (run_rows t F) ≡ Some place
  pub within : place < length (run_rows t F)
  pub lanes : AreLanes row
  pub unused : AreUnused t.unknowns row
  pub same : divided (row_over t.unknowns t.scale (numbers_of t.unknowns row)) ≡ row_at (run_rows t F) place
