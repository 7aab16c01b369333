-- A row by its numbers, one after the other.
use Rattle.std.specs.Prelude.{ℕ, ℤ, pos, Bool, false, ◌&&◌, List, [], ◌∷◌, ◌++◌, take, drop, if◌then◌else◌}
use Rattle.std.specs.List.{list_all}
use Rattle.pip_model.specs.Numbers.{is_zero, same_number}
use Rattle.pip_model.specs.Forms.{entry}
use Rattle.pip_model.specs.Rows.{Row}

-- the numbers of a row: its denominator, its coefficients, the entries of its constant form
abbrev pub numbers_of : Row → List ℤ
numbers_of r = r.den ∷ (r.coefs ++ r.constant)

-- the row of these numbers over n columns
abbrev pub row_of_numbers : ℕ → List ℤ → Row
row_of_numbers n zs = record { den = entry zs 0; coefs = take n (drop 1 zs); constant = drop n (drop 1 zs) }

-- one of these is 1, and all else 0
abbrev pub is_unit : List ℤ → Bool
is_unit [] = false
is_unit (z ∷ zs) = if is_zero z then is_unit zs else same_number z (pos 1) && list_all is_zero zs

-- the row of a column
abbrev pub is_unit_row : Row → Bool
is_unit_row r = same_number r.den (pos 1) && (is_unit r.coefs && list_all is_zero r.constant)
