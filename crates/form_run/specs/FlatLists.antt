-- Lists of as many numbers each, one behind another.
use Rattle.std.specs.Prelude.{ℕ, zero, suc, ℤ, List, [], ◌∷◌, take, drop}

pub record NumberLists : Type 0 where
  pub size : ℕ
  pub lists : List (List ℤ)

-- k lists of s numbers by their numbers
abbrev pub lists_in : ℕ → ℕ → List ℤ → List (List ℤ)
lists_in s zero zs = []
lists_in s (suc k) zs = take s zs ∷ lists_in s k (drop s zs)
