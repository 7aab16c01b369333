-- Rows as forms: the constant, which stands behind the first k coefficients, is moved to the end.
use Rattle.std.specs.Prelude.{ℕ, ℤ, List, map, Ok}
use Rattle.pip_model.specs.declared.Kind.TheVariants.{LeftParen, RightParen}
use Rattle.pip_model.specs.Reading.{Reads, ◌>>=◌, expect, row, rows}
use Rattle.pip_model.specs.NativeText.{form_of_row}

-- `n` numbers between the brackets
abbrev pub form_row : List ℕ → ℕ → ℕ → ℕ → Reads (List ℤ)
form_row bytes n k place = do
  r ← row bytes n place
  Ok (form_of_row k r.0, r.1)

abbrev pub form_rows : List ℕ → ℕ → ℕ → ℕ → ℕ → Reads (List (List ℤ))
form_rows bytes count n k place = do
  rs ← rows bytes count n place
  Ok (map (form_of_row k) rs.0, rs.1)

abbrev pub form_block : List ℕ → ℕ → ℕ → ℕ → ℕ → Reads (List (List ℤ))
form_block bytes count n k place = do
  first ← expect bytes LeftParen place
  rs ← form_rows bytes count n k first
  after ← expect bytes RightParen rs.1
  Ok (rs.0, after)
