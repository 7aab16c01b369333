-- Forms that are >= 0 at a vector.
use Rattle.std.specs.Prelude.{◌≡◌, ◌+◌, ℤ, true, List, length}
use Rattle.pip_model.specs.Numbers.{is_nonneg}
use Rattle.pip_model.specs.Forms.{value}

-- a form over the vector's places that is >= 0 there
pub record Holds (u c : List ℤ) : Type 0 where
  pub sized : length c ≡ length u + 1
  pub nonneg : is_nonneg (value c u) ≡ true
