-- Rows that a pivot makes, where all their numbers are short.
use Rattle.std.specs.Prelude.{◌≡◌, ℕ, ℤ, Bool, false, IsTrue, IsFalse, List}
use Rattle.std.specs.List.{list_all}
use Rattle.pip_model.specs.Rows.{Row}
use Rattle.short_tableau.specs.Dense.{rows_in, IsDense}
use Rattle.short_row.specs.Turned.{is_short_row}

-- whether all numbers of these k rows are short, and then these are their numbers
pub record AreTurned (n k : ℕ) (rs : List Row) (short : Bool) (zs : List ℤ) : Type 0 where
  pub dense : IsTrue short → IsDense n k zs
  pub rows : IsTrue short → rows_in n k zs ≡ rs
  pub long : IsFalse short → list_all is_short_row rs ≡ false
