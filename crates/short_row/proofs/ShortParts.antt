-- A short row with another put in.
use Rattle.short_row.proofs.Words.{◌≡◌, refl, ℕ, ◌+◌, ◌<◌, ℤ, pos, ◌≤ℤ◌, List, [], ◌∷◌, ◌++◌, length, arith, slice_set, slice_index_or, take_at, drop_at, gcd, gcd_of, gcd_between, quotient_positive, Row, divided, unit_row, row_of_numbers, IsShortRow, IsRow, row_from, fits_short, content-one, IsShortReduced, short_fit}
use Rattle.row_laws.proofs.Solved.{unit_short}
use Rattle.row_laws.proofs.UnitFits.{unit_fits}

-- a row of these lengths, whose numbers are short
pub short_row : (n w : ℕ) (r : Row) → pos 1 ≤ℤ r.den → length r.coefs ≡ n → length r.constant ≡ w + 1 → IsShortRow r → IsRow n w r
short_row n w r h coefs constant short = record {
  positive = h;
  den_fits = short_fit r.den short.den;
  coefs = coefs;
  constant = constant;
  coefs_fit = fits_short r.coefs short.coefs;
  constant_fit = fits_short r.constant short.constant;
}

-- a row's numbers as its parts
pub row_split : (n : ℕ) (zs front rest coefs constant : List ℤ) → zs ≡ front ++ rest → rest ≡ coefs ++ constant → length front ≡ 1 → length coefs ≡ n
    → row_of_numbers n zs ≡ row_from (slice_index_or front 0 (pos 0)) coefs constant
row_split n zs (x ∷ []) rest coefs constant e f one long = rw (e, f, take_at coefs constant n long, drop_at coefs constant n long) refl
row_split n zs _ rest coefs constant e f one long = absurd (omega arith)

pub row_join : (n : ℕ) (front coefs constant : List ℤ) (z : ℤ) → length front ≡ 1 → length coefs ≡ n → row_of_numbers n (slice_set front 0 z ++ (coefs ++ constant)) ≡ row_from z coefs constant
row_join n (x ∷ []) coefs constant z one long = rw (take_at coefs constant n long, drop_at coefs constant n long) refl
row_join n _ coefs constant z one long = absurd (omega arith)

-- ---- what a short row is after a pivot

pub divided_positive : (r : Row) → pos 1 ≤ℤ r.den → pos 1 ≤ℤ (divided r).den
divided_positive r h =
    let between = gcd_between r.den (gcd (gcd_of r.coefs) (gcd_of r.constant)) h in
    quotient_positive r.den (gcd r.den (gcd (gcd_of r.coefs) (gcd_of r.constant))) between.0 between.1

-- ---- the row of a column

pub unit_reduced : (n m c : ℕ) → c < n → IsShortReduced n m (unit_row n m c)
unit_reduced n m c h = record { row = unit_fits n m c h; reduced = content-one (unit_row n m c) refl; short = unit_short n m c }
