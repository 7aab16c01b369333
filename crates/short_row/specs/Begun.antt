-- A row that a pivot's row is put into, as far as its numbers are made.
use Rattle.std.specs.Prelude.{◌≡◌, ℕ, ℤ, pos, ◌<◌, ◌≤◌, List, ◌++◌, length, take, drop, slice_set}
use Rattle.pip_model.specs.Forms.{combine, entry}
use Rattle.pip_model.specs.Numbers.{gcd, gcd_of}
use Rattle.pip_model.specs.Rows.{Row}
use Rattle.affine_forms.specs.Checks.{Fits}
use Rattle.row_laws.specs.Rows.{row_from}
use Rattle.short_row.specs.Terms.{AreTerms, IsDivisor}
use Rattle.short_row.specs.declared.begun.BegunRow.{BegunRow}

-- the entries of a*r - b*s, of which those in front of place k stand in r already
abbrev pub finished : ℤ → List ℤ → ℤ → List ℤ → ℕ → List ℤ
finished a r b s k = take k r ++ combine a (drop k r) b (drop k s)

-- the coefficients, but that in the column, and the constant form of a row with p put in that is begun over these numbers
abbrev pub begun_coefs : BegunRow → Row → List ℤ → List ℤ
begun_coefs w p coefs = finished w.by.of_row coefs w.by.of_pivot p.coefs w.coefs

abbrev pub begun_constant : BegunRow → Row → List ℤ → List ℤ
begun_constant w p constant = finished w.by.of_row constant w.by.of_pivot p.constant w.constant

-- that row
abbrev pub begun_row : BegunRow → Row → List ℤ → List ℤ → Row
begun_row w p coefs constant = row_from w.den (slice_set (begun_coefs w p coefs) w.column w.entry) (begun_constant w p constant)

-- the greatest common divisor of all its numbers
abbrev pub begun_divisor : BegunRow → Row → List ℤ → List ℤ → ℤ
begun_divisor w p coefs constant = gcd (gcd (gcd w.den w.entry) (gcd_of (begun_coefs w p coefs))) (gcd_of (begun_constant w p constant))

-- a row with p put in that is begun over these numbers: as many of them are made as there are at most
pub record IsBegun (w : BegunRow) (p : Row) (coefs constant : List ℤ) : Type 0 where
  pub den : IsDivisor w.den
  pub entry_fits : Fits w.entry
  pub column : w.column < length coefs
  pub coefs_terms : AreTerms w.by.of_row coefs w.by.of_pivot p.coefs
  pub constant_terms : AreTerms w.by.of_row constant w.by.of_pivot p.constant
  pub coefs_made : w.coefs ≤ length coefs
  pub constant_made : w.constant ≤ length constant
  pub zero : entry (begun_coefs w p coefs) w.column ≡ pos 0
