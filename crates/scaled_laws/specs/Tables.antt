-- Rows over one denominator as contracts see them.
use Rattle.std.specs.Prelude.{ℕ, ℤ, pos, List, [], ◌∷◌, ◌++◌}
use Rattle.pip_model.specs.Rows.{Row, start}

-- the numbers of columns and of places, the rows, the denominator of all their numbers, and a number that none of their numbers
-- nor the denominator passes in size
pub record ScaledTable : Type 0 where
  pub unknowns : ℕ
  pub width : ℕ
  pub rows : List Row
  pub scale : ℤ
  pub most : ℕ

-- no rows over so many columns and places, and those of the columns
abbrev pub no_rows : ℕ → ℕ → ScaledTable
no_rows n w = record { unknowns = n; width = w; rows = []; scale = pos 1; most = 1 }

abbrev pub column_rows : ℕ → ℕ → ScaledTable
column_rows n w = record { unknowns = n; width = w; rows = start n w []; scale = pos 1; most = 1 }

-- with one more row
abbrev pub with_row : ScaledTable → Row → ScaledTable
with_row t r = record t { rows = t.rows ++ r ∷ [] }
