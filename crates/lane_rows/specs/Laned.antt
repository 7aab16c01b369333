-- Rows of eight numbers over one denominator: lane 0 is the constant, lane k + 1 is column k of at most seven.
use Rattle.std.specs.Prelude.{◌≡◌, ℕ, ◌+◌, ◌^◌, ◌<◌, ◌≤◌, ℤ, pos, ◌≤ℤ◌, unsigned_abs, List, [], ◌∷◌, ◌++◌, length, map, take, drop, slice_index_or, All}
use Rattle.pip_model.specs.Forms.{entry}
use Rattle.pip_model.specs.Rows.{Row, divided, count_from}
use Rattle.scaled_laws.specs.Scaled.{row_over}
use Rattle.scaled_laws.specs.Tables.{ScaledTable}
use Rattle.lanes.specs.Narrow.{AreLanes}

-- the numbers of a row or of a form over n columns: its coefficients, and then its constant
abbrev pub numbers_of : ℕ → List ℤ → List ℤ
numbers_of n x = take n (drop 1 x) ++ entry x 0 ∷ []

-- a lane that no column uses is 0
abbrev pub AreUnused : ℕ → List ℤ → Type 0
AreUnused n x = (k : ℕ) → n < k → entry x k ≡ pos 0

-- those of row j
abbrev pub numbers_at : ℕ → List (List ℤ) → ℕ → List ℤ
numbers_at n xs j = numbers_of n (slice_index_or xs j [])

-- the first k of these rows over n columns and l
abbrev pub rows_in : ℕ → ℤ → ℕ → List (List ℤ) → List Row
rows_in n l k xs = map (λ j. divided (row_over n l (numbers_at n xs j))) (count_from 0 k)

-- the same rows before they are divided
abbrev pub undivided_in : ℕ → ℤ → ℕ → List (List ℤ) → List Row
undivided_in n l k xs = map (λ j. row_over n l (numbers_at n xs j)) (count_from 0 k)

-- the rows of n columns, and others behind them
abbrev pub table_of : ℕ → List (List ℤ) → ℤ → ℕ → ScaledTable
table_of n rows l m = record { unknowns = n; width = 0; rows = rows_in n l (length rows) rows; scale = l; most = m }

-- a row over n columns, of whose numbers none is greater than m
pub record IsLaned (n m : ℕ) (x : List ℤ) : Type 0 where
  pub lanes : AreLanes x
  pub unused : AreUnused n x
  pub within : (k : ℕ) → unsigned_abs (entry x k) ≤ m

-- the denominator, and behind it the constants of the first n rows
pub record IsVertex (n : ℕ) (rows : List (List ℤ)) (l : ℤ) (at : List ℤ) : Type 0 where
  pub lanes : AreLanes at
  pub scale : entry at 0 ≡ l
  pub constants : (j : ℕ) → j < n → entry at (j + 1) ≡ entry (slice_index_or rows j []) 0
  pub unused : AreUnused n at

-- these are the rows of n columns and others over l, no number of which, nor l, is greater than m
pub record AreLaned (n : ℕ) (rows : List (List ℤ)) (at : List ℤ) (l : ℤ) (m : ℕ) : Type 0 where
  pub few : n ≤ 7
  pub enough : n ≤ length rows
  pub each : All (IsLaned n m) rows
  pub vertex : IsVertex n rows l at
  pub positive : pos 1 ≤ℤ l
  pub common : unsigned_abs l ≤ m
  pub small : m < 2 ^ 31
