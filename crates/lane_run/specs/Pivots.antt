-- A pivot of a table on the row of these lanes.
use Rattle.std.specs.Prelude.{◌≡◌, ℕ, ◌+◌, ◌^◌, ◌<◌, ◌≤◌, ℤ, pos, ◌≤ℤ◌, Option, Some, IfSome, List, length, map, take}
use Rattle.pip_model.specs.Forms.{entry}
use Rattle.pip_model.specs.Rows.{Row, divided, eliminated, entering_of, candidates}
use Rattle.row_laws.specs.Choices.{IsCandidate}
use Rattle.scaled_laws.specs.Scaled.{AreScaled, row_over}
use Rattle.scaled_laws.specs.Tables.{ScaledTable}
use Rattle.lane_rows.specs.Laned.{numbers_of}

-- the row of these lanes over the denominator
abbrev pub row_of : ScaledTable → List ℤ → Row
row_of t p = divided (row_over t.unknowns t.scale (numbers_of t.unknowns p))

-- rows without parameters, those of the columns first, whose numbers over the denominator have 31 bits
pub record IsNarrowTable (t : ScaledTable) : Type 0 where
  pub width : t.width ≡ 0
  pub rows : AreScaled t.unknowns 0 t.scale t.most t.rows
  pub narrow : t.most < 2 ^ 31
  pub enough : t.unknowns ≤ length t.rows

-- the column that enters where that row is below 0, if one does
pub record IsEntering (t : ScaledTable) (p : List ℤ) (o : Option ℕ) : Type 0 where
  pub table : IsNarrowTable t
  pub column : o ≡ entering_of (take t.unknowns t.rows) (row_of t p) (candidates (row_of t p))
  pub candidate : IfSome o (IsCandidate t.unknowns (row_of t p))
  pub positive : IfSome o (λ c. pos 1 ≤ℤ entry p (c + 1))

-- that row was put into each row, solved for the column that enters
pub record IsPivoted (t now : ScaledTable) (p : List ℤ) (c : ℕ) : Type 0 where
  pub enters : IsEntering t p (Some c)
  pub table : IsNarrowTable now
  pub unknowns : now.unknowns ≡ t.unknowns
  pub rows : now.rows ≡ map (eliminated (row_of t p) c) t.rows
