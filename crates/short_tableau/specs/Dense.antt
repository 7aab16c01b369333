-- Rows number after number, each of as many.
use Rattle.std.specs.Prelude.{◌≡◌, ℕ, zero, suc, ◌*◌, ℤ, List, [], ◌∷◌, length, take, drop, All}
use Rattle.pip_model.specs.Rows.{Row}
use Rattle.row_laws.specs.Flat.{row_of_numbers}
use Rattle.short_row.specs.Sized.{row_size, IsShortReduced}

-- k rows over n columns by their numbers
abbrev pub rows_in : ℕ → ℕ → List ℤ → List Row
rows_in n zero zs = []
rows_in n (suc k) zs = row_of_numbers n (take (row_size n) zs) ∷ rows_in n k (drop (row_size n) zs)

-- these are the numbers of k such rows
pub record IsDense (n k : ℕ) (zs : List ℤ) : Type 0 where
  pub size : length zs ≡ k * row_size n
  pub rows : All (IsShortReduced n 0) (rows_in n k zs)
