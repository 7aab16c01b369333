-- What turning rows of lanes makes.
use Rattle.std.specs.Prelude.{◌≡◌, ℕ, ◌*◌, ◌^◌, ◌<◌, ◌≤◌, ℤ, unsigned_abs, List, [], length, slice_index_or, All}
use Rattle.pip_model.specs.Forms.{entry, scale}
use Rattle.scaled_laws.specs.Turned.{turned}
use Rattle.lanes.specs.Narrow.{AreLanes}

-- the products that turning these rows makes are below 2^30
pub record CanTurn (p : List ℤ) (rows : List (List ℤ)) : Type 0 where
  pub most : ℕ
  pub size : ℕ
  pub pivot : AreLanes p
  pub lanes : All AreLanes rows
  pub within : All (λ x. (k : ℕ) → unsigned_abs (entry x k) ≤ most) rows
  pub pivot_within : (k : ℕ) → unsigned_abs (entry p k) ≤ size
  pub bound : most * size < 2 ^ 30

-- over l each row is turned, its numbers not greater than m
pub record AreTurned (l : ℤ) (p : List ℤ) (lane : ℕ) (old new : List (List ℤ)) (m : ℕ) : Type 0 where
  pub long : length new ≡ length old
  pub rows : (j : ℕ) → j < length old → scale l (slice_index_or new j []) ≡ turned l p lane (slice_index_or old j [])
  pub lanes : All AreLanes new
  pub within : All (λ x. (k : ℕ) → unsigned_abs (entry x k) ≤ m) new
