-- What the steps of rows ask.
use Rattle.std.specs.Prelude.{◌≡◌, ℕ, ◌-◌, ◌<◌, pos, ◌≤ℤ◌, Bool, length, IsTrue}
use Rattle.pip_model.specs.Forms.{entry}
use Rattle.pip_model.specs.Rows.{Row, unit_row}
use Rattle.row_laws.specs.Rows.{IsRow, IsOwnRow, IsReduced}
use Rattle.row_laws.specs.Short.{IsShortRow}

-- ---- rows
-- row p can be solved for the quantity of column c
pub record IsPivotRow (p : Row) (c : ℕ) : Type 0 where
  pub row : IsOwnRow p
  pub column : c < length p.coefs
  pub positive : pos 1 ≤ℤ entry p.coefs c

-- and then be put into row r, which is as large
pub record IsElimination (p : Row) (c : ℕ) (r : Row) : Type 0 where
  pub pivot : IsPivotRow p c
  pub row : IsOwnRow r
  pub coefs : length r.coefs ≡ length p.coefs
  pub constant : length r.constant ≡ length p.constant

-- the row of column c itself, as large as row p
abbrev pub column_row : Row → ℕ → Row
column_row p c = unit_row (length p.coefs) (length p.constant - 1) c

-- of row r the wanted row is made, over the same columns and places, and short where that is known
pub record MakesRow (r wanted : Row) (known : Bool) (made : Row) : Type 0 where
  pub value : made ≡ wanted
  pub row : IsRow (length r.coefs) (length r.constant - 1) made
  pub short : IsTrue known → IsShortRow made

-- a row as large as row r, without a common divisor, and short where that is known
pub record IsMadeReduced (r : Row) (known : Bool) (made : Row) : Type 0 where
  pub row : (n w : ℕ) → IsRow n w r → IsRow n w made
  pub reduced : IsReduced made
  pub short : IsTrue known → IsShortRow made
