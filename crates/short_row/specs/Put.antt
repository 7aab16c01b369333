-- A row that the pivot's row is put into, number after number.
use Rattle.std.specs.Prelude.{◌≡◌, ℕ, ℤ, pos, ◌*ℤ◌, ◌≤ℤ◌, ◌+◌, ◌<◌, ◌≤◌, List, take, drop, length, slice_set}
use Rattle.pip_model.specs.Forms.{entry}
use Rattle.pip_model.specs.Numbers.{gcd, gcd_of}
use Rattle.pip_model.specs.Rows.{Row}
use Rattle.row_laws.specs.Flat.{row_of_numbers}
use Rattle.row_laws.specs.Short.{IsShort}
use Rattle.row_laws.specs.Rows.{row_from, content}
use Rattle.short_row.specs.Begun.{finished}
use Rattle.short_row.specs.Sized.{places_of, IsShortReduced, IsPivot}
use Rattle.short_numbers.specs.Short.{IsShortDivisor}
use Rattle.short_row.specs.Terms.{AreTerms}
use Rattle.short_row.specs.declared.put.PutRow.{PutRow}
use Rattle.short_row.specs.declared.wide.Factors.{Factors}

-- the numbers behind the denominator with row p put in, but that in the column: as many as are made stand there already
abbrev pub put_numbers : PutRow → List ℤ → List ℤ → List ℤ
put_numbers w p now = finished w.by.of_row (drop 1 now) w.by.of_pivot (drop 1 p) w.made

-- the row over n columns with row p put in
abbrev pub put_row : ℕ → PutRow → List ℤ → List ℤ → Row
put_row n w p now = row_from (entry now 0 *ℤ w.by.of_row) (slice_set (take n (put_numbers w p now)) w.column (w.by.of_pivot *ℤ entry p 0)) (drop n (put_numbers w p now))

-- row p is put into a row over n columns by these factors, and the divisor of the row that is made is found from the two
-- denominators
pub record IsPut (n : ℕ) (w : PutRow) (p now : List ℤ) : Type 0 where
  pub size : length p ≡ length now
  pub some : n + 2 ≤ length now
  pub den : IsShortDivisor (entry now 0)
  pub pivot_den : IsShortDivisor (entry p 0)
  pub factor : pos 1 ≤ℤ w.by.of_row
  pub column : w.column < n
  pub terms : AreTerms w.by.of_row (drop 1 now) w.by.of_pivot (drop 1 p)
  pub made : w.made + 1 ≤ length now
  pub zero : entry (take n (put_numbers w p now)) w.column ≡ pos 0
  pub content : content (put_row n w p now)
      ≡ gcd (gcd (entry now 0) (entry p 0)) (gcd (gcd_of (put_row n w p now).coefs) (gcd_of (put_row n w p now).constant))

-- the denominator and the entry in the column of the row that is made from denominators d and e
pub record ArePutEnds (by : Factors) (d e : ℤ) (ends : ℤ × ℤ) : Type 0 where
  pub den : ends.0 ≡ d *ℤ by.of_row
  pub entry : ends.1 ≡ by.of_pivot *ℤ e
  pub den_short : IsShort ends.0
  pub entry_short : IsShort ends.1

-- these are the numbers of a pivot's row and of a row that it is put into
pub record IsTurning (n : ℕ) (p : List ℤ) (c : ℕ) (now : List ℤ) : Type 0 where
  pub size : length p ≡ length now
  pub some : n + 2 ≤ length now
  pub row : IsShortReduced n (places_of n now) (row_of_numbers n now)
  pub pivot : IsPivot n (places_of n now) (row_of_numbers n p) c
