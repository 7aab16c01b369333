-- The numbers of a row's cut, over the row's denominator.
use Rattle.std.specs.Prelude.{ℕ, ℤ, neg_ℤ, Bool, nat_lt, List, length, map, if◌then◌else◌}
use Rattle.pip_model.specs.Numbers.{floor_mod}
use Rattle.pip_model.specs.Forms.{entry}
use Rattle.pip_model.specs.Rows.{count_from}

-- what the quotient by l leaves, rounded down for a coefficient, and rounded up for an entry of the constant form
abbrev pub left_of : ℤ → Bool → ℤ → ℤ
left_of l coefficient z = if coefficient then floor_mod z l else neg_ℤ (floor_mod (neg_ℤ z) l)

-- the numbers of the constant cut by the row of these numbers over n columns and l
abbrev pub cut_numbers : ℕ → ℤ → List ℤ → List ℤ
cut_numbers n l zs = map (λ k. left_of l (nat_lt k n) (entry zs k)) (count_from 0 (length zs))
