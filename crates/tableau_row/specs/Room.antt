-- The numbers that stand one after the other.
use Rattle.std.specs.Prelude.{◌≡◌, ◌+◌, ◌≤◌, ℤ, List, ◌++◌, length, Vec, vec_len, vec_capacity}
use Rattle.std.specs.declared.alloc.Global.{Global}

-- ---- the numbers that stand one after the other
-- these are behind those that were there, in no less room
pub record Appends (old new : Vec ℤ Global) (zs : List ℤ) : Type 0 where
  pub items : new.items ≡ old.items ++ zs
  pub count : vec_len new ≡ vec_len old + length zs
  pub room : vec_capacity old ≤ vec_capacity new

-- those that were there are left, in no less room
pub record Leaves (old new : Vec ℤ Global) : Type 0 where
  pub items : new.items ≡ old.items
  pub room : vec_capacity old ≤ vec_capacity new
