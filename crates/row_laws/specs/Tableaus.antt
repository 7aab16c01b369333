-- A tableau as its rows.
use Rattle.std.specs.Prelude.{ℕ, List, [], ◌∷◌, ◌++◌, slice_set}
use Rattle.pip_model.specs.Rows.{Row, row_at}
use Rattle.pip_model.specs.Cuts.{rounded}
pub use Rattle.row_laws.specs.Rows.{IsRow, content, IsReduced, row_from, IsOwnRow}

-- the numbers of columns and of places of a constant form, which are the parameters and the quotients, and the rows
pub record TableauRows : Type 0 where
  pub unknowns : ℕ
  pub width : ℕ
  pub rows : List Row

-- the tableau with one more row
abbrev pub with_row : TableauRows → Row → TableauRows
with_row t r = record t { rows = t.rows ++ r ∷ [] }

-- the tableau with row i rounded by the quotient at place q
abbrev pub with_rounded : TableauRows → ℕ → ℕ → TableauRows
with_rounded t i q = record t { rows = slice_set t.rows i (rounded (row_at t.rows i) q) }
