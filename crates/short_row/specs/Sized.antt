-- Rows of 64 bits by their numbers.
use Rattle.std.specs.Prelude.{ℕ, ◌+◌, ◌-◌, ℤ, List, length}
use Rattle.pip_model.specs.Rows.{Row}
use Rattle.row_laws.specs.Choices.{IsCandidate}
use Rattle.row_laws.specs.Short.{IsShortRow}
use Rattle.row_laws.specs.Rows.{IsRow, IsReduced}

-- the numbers of a row over n columns, whose constant form is a constant
abbrev pub row_size : ℕ → ℕ
row_size n = n + 2

-- over how many places a row of these numbers over n columns is
abbrev pub places_of : ℕ → List ℤ → ℕ
places_of n zs = length zs - (n + 2)

-- a row over n columns and m places whose numbers are short and have no common divisor
pub record IsShortReduced (n m : ℕ) (r : Row) : Type 0 where
  pub row : IsRow n m r
  pub reduced : IsReduced r
  pub short : IsShortRow r

-- such a row that is positive in column c
pub record IsPivot (n m : ℕ) (p : Row) (c : ℕ) : Type 0 where
  pub row : IsShortReduced n m p
  pub candidate : IsCandidate n p c
