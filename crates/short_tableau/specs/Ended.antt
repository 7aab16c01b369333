-- Rows at which a run ends, and the rows that a pivot makes.
use Rattle.std.specs.Prelude.{◌≡◌, ℕ, Bool, true, false, is_some, IsTrue, IfSome, None, List, map}
use Rattle.std.specs.List.{list_any}
use Rattle.pip_model.specs.Numbers.{is_positive}
use Rattle.pip_model.specs.Rows.{Row, row_at, eliminated, first_fraction}
use Rattle.short_tableau.specs.Below.{negative_from}

-- a run ends at these rows: with a point, where none is below 0 and those of the unknowns are whole; without one, where the
-- first that is below 0 is not positive in any column
abbrev pub IsEndedBy : ℕ → List Row → Bool → Type 0
IsEndedBy n rows true = (negative_from 0 rows ≡ None) × (first_fraction n rows ≡ None)
IsEndedBy n rows false =
    IsTrue (is_some (negative_from 0 rows)) × IfSome (negative_from 0 rows) (λ r. list_any is_positive (row_at rows r).coefs ≡ false)

-- rows after a pivot on the row p, which is none of them, and column c
abbrev pub turned_by : Row → ℕ → List Row → List Row
turned_by p c rows = map (eliminated p c) rows
