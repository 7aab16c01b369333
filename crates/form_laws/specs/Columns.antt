-- The numbers of rows over a common multiple of their denominators, column after column.
use Rattle.std.specs.Prelude.{◌≡◌, ℕ, ◌+◌, ◌-◌, ◌^◌, ◌<◌, ◌≤◌, ℤ, pos, ◌*ℤ◌, ◌≤ℤ◌, unsigned_abs, nat_lt, List, length, take, flat_map, All, if◌then◌else◌}
use Rattle.pip_model.specs.Numbers.{floor_div}
use Rattle.pip_model.specs.Forms.{entry, dot}
use Rattle.pip_model.specs.Rows.{Row, count_from}
use Rattle.form_laws.specs.ByForm.{coef, place, over, IsWide}

-- number k of a row over n columns: a coefficient, or behind these an entry of the constant form
abbrev pub part : ℕ → ℕ → Row → ℤ
part n k r = if nat_lt k n then coef k r else place (k - n) r

abbrev pub columns_of : ℕ → ℕ → ℤ → List Row → List ℤ
columns_of n w L rows = flat_map (λ k. over L (part n k) rows) (count_from 0 (n + w + 1))

-- a row over n columns and w places, of whose denominator L is a multiple
pub record IsScaled (n w : ℕ) (L : ℤ) (r : Row) : Type 0 where
  pub wide : IsWide n w r
  pub multiple : L ≡ r.den *ℤ floor_div L r.den

-- the rows are those of n unknowns, L is a common multiple, these are the numbers over L, none greater than m
pub record IsBasis (n w : ℕ) (basis : List Row) (L : ℤ) (m : ℕ) (numbers : List ℤ) : Type 0 where
  pub size : length basis ≡ n
  pub rows : All (IsScaled n w L) basis
  pub positive : pos 1 ≤ℤ L
  pub columns : numbers ≡ columns_of n w L basis
  pub common : unsigned_abs L ≤ m
  pub within : All (λ z. unsigned_abs z ≤ m) numbers
  pub small : m < 2 ^ 63

-- the products of a form's entries and the numbers of a column, and the sums of the first of them, are short
pub record IsSummable (form column : List ℤ) : Type 0 where
  pub length : length column ≤ length form
  pub entries : (i : ℕ) → unsigned_abs (entry form i) < 2 ^ 63
  pub products : (i : ℕ) → unsigned_abs (entry form i *ℤ entry column i) < 2 ^ 63
  pub sums : (i : ℕ) → unsigned_abs (dot form (take i column)) < 2 ^ 63
