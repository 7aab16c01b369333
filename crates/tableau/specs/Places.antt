-- Rows as they are kept: the row of a column by the column, any other by the place of its numbers.
use Rattle.std.specs.Prelude.{◌≡◌, ℕ, ◌+◌, ◌*◌, ◌<◌, ◌≤◌, ℤ, pos, ◌≤ℤ◌, Bool, true, false, not, IsTrue, List, ◌∷◌, ◌++◌, length, take, drop, map, filter, flat_map, max, replicate, All}
use Rattle.pip_model.specs.Forms.{entry}
use Rattle.pip_model.specs.Rows.{Row, unit_row}
use Rattle.row_laws.specs.Short.{IsShortRow}
use Rattle.row_laws.specs.Rows.{IsRow, IsReduced}
use Rattle.row_laws.specs.Flat.{numbers_of, row_of_numbers, is_unit_row}
use Rattle.tableau.specs.declared.kept.Lent.{Lent}
use Rattle.tableau.specs.declared.kept.Kept.{Kept}
use Rattle.tableau.specs.declared.kept.Kept.TheVariants as kept
use Rattle.tableau.specs.declared.kept.RowPlace.{RowPlace}

-- the numbers of a row over n columns and w places
abbrev pub row_length : ℕ → ℕ → ℕ
row_length n w = n + w + 2

-- the row at a place of the numbers
abbrev pub row_from_place : ℕ → ℕ → List ℤ → ℕ → Row
row_from_place n w numbers p = row_of_numbers n (take (row_length n w) (drop p numbers))

abbrev pub row_kept : ℕ → ℕ → List ℤ → Kept → Row
row_kept n w numbers (kept.Unit c) = unit_row n w c
row_kept n w numbers (kept.At p) = row_from_place n w numbers p.first

abbrev pub rows_kept : ℕ → ℕ → List ℤ → List Kept → List Row
rows_kept n w numbers ks = map (row_kept n w numbers) ks

abbrev pub lent_row : Lent → Kept → Row
lent_row v k = row_kept v.unknowns v.width v.numbers.now k

abbrev pub lent_rows : Lent → List Kept → List Row
lent_rows v ks = rows_kept v.unknowns v.width v.numbers.now ks

-- there is such a column, and so many numbers from the place on
abbrev pub IsPlace : ℕ → ℕ → ℕ → Kept → Type 0
IsPlace n w len (kept.Unit c) = c < n
IsPlace n w len (kept.At p) = p.first + row_length n w ≤ len

-- whether all numbers of the row are known to be short
abbrev pub kept_short : Kept → Bool
kept_short (kept.Unit c) = true
kept_short (kept.At p) = p.short

-- where they are known to be, they are
abbrev pub IsKnown : ℕ → ℕ → List ℤ → Kept → Type 0
IsKnown n w numbers k = IsTrue (kept_short k) → IsShortRow (row_kept n w numbers k)

-- a row that is kept by its numbers is not that of a column
abbrev pub IsPlain : ℕ → ℕ → List ℤ → Kept → Type 0
IsPlain n w numbers (kept.Unit c) = Unit {0}
IsPlain n w numbers (kept.At p) = is_unit_row (row_from_place n w numbers p.first) ≡ false

-- the rows that are not the row of a column, number after number
abbrev pub flat_numbers : List Row → List ℤ
flat_numbers rows = flat_map numbers_of (filter (λ r. not (is_unit_row r)) rows)

-- the numbers are those of the rows that are not kept as columns
pub record IsFlat (n w : ℕ) (numbers : List ℤ) (ks : List Kept) : Type 0 where
  pub places : All (IsPlace n w (length numbers)) ks
  pub rows : All (IsRow n w) (rows_kept n w numbers ks)
  pub reduced : All IsReduced (rows_kept n w numbers ks)
  pub short : All (IsKnown n w numbers) ks
  pub plain : All (IsPlain n w numbers) ks
  pub flat : numbers ≡ flat_numbers (rows_kept n w numbers ks)
  pub few : length numbers ≤ length ks * row_length n w

-- a row that is kept among these numbers, with what is known of it; several
pub record IsKept (n w : ℕ) (numbers : List ℤ) (k : Kept) : Type 0 where
  pub place : IsPlace n w (length numbers) k
  pub row : IsRow n w (row_kept n w numbers k)
  pub reduced : IsReduced (row_kept n w numbers k)
  pub short : IsKnown n w numbers k
  pub plain : IsPlain n w numbers k

pub record AreKept (n w : ℕ) (numbers : List ℤ) (ks : List Kept) : Type 0 where
  pub places : All (IsPlace n w (length numbers)) ks
  pub rows : All (λ k. IsRow n w (row_kept n w numbers k)) ks
  pub reduced : All (λ k. IsReduced (row_kept n w numbers k)) ks
  pub short : All (IsKnown n w numbers) ks
  pub plain : All (IsPlain n w numbers) ks

abbrev pub IsLent : Lent → Kept → Type 0
IsLent v k = IsKept v.unknowns v.width v.numbers.now k

abbrev pub AreLent : Lent → List Kept → Type 0
AreLent v ks = AreKept v.unknowns v.width v.numbers.now ks

-- zeros, a 1, and zeros: each column's coefficients begin in it, and a constant form of zeros stands behind the 1
abbrev pub unit_run : ℕ → ℕ → List ℤ
unit_run n w = replicate n (pos 0) ++ pos 1 ∷ replicate (max n (w + 1)) (pos 0)

-- a row without a common divisor that can be solved for the quantity of column c
pub record IsSolvable (n w : ℕ) (p : Row) (c : ℕ) : Type 0 where
  pub row : IsRow n w p
  pub reduced : IsReduced p
  pub column : c < n
  pub positive : pos 1 ≤ℤ entry p.coefs c

-- the numbers of a row that is not that of a column
pub record IsPlainRow (n w : ℕ) (numbers : List ℤ) (known : Bool) : Type 0 where
  pub length : length numbers ≡ row_length n w
  pub row : IsRow n w (row_of_numbers n numbers)
  pub reduced : IsReduced (row_of_numbers n numbers)
  pub short : IsTrue known → IsShortRow (row_of_numbers n numbers)
  pub plain : is_unit_row (row_of_numbers n numbers) ≡ false

-- the numbers from the place on are those of one more row
pub record IsUnsealed (n w : ℕ) (last : RowPlace) (numbers : List ℤ) (ks : List Kept) : Type 0 where
  pub flat : IsFlat n w (take last.first numbers) ks
  pub row : IsRow n w (row_of_numbers n (drop last.first numbers))
  pub reduced : IsReduced (row_of_numbers n (drop last.first numbers))
  pub short : IsTrue last.short → IsShortRow (row_of_numbers n (drop last.first numbers))
  pub begun : last.first + row_length n w ≡ length numbers
