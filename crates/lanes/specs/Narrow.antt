-- Lists of numbers of 32 bits, and what keeps sums and products of them so short.
use Rattle.std.specs.Prelude.{◌≡◌, ℕ, ◌^◌, ◌<◌, ℤ, pos, ◌+ℤ◌, ◌*ℤ◌, ◌≤◌, ◌<ℤ◌, ◌≤ℤ◌, neg_ℤ, unsigned_abs, Bool, List, length, take, if◌then◌else◌}
use Rattle.pip_model.specs.Numbers.{floor_mod}
use Rattle.pip_model.specs.Forms.{entry, dot}

-- z lies from -(2^31 - 1) to 2^31 - 1
abbrev pub IsNarrow : ℤ → Type 0
IsNarrow z = unsigned_abs z < 2 ^ 31

-- eight such numbers
pub record AreLanes (zs : List ℤ) : Type 0 where
  pub long : length zs ≡ 8
  pub narrow : (k : ℕ) → IsNarrow (entry zs k)

-- no number is greater in size than that in its place
abbrev pub AreCovered : List ℤ → List ℤ → Type 0
AreCovered xs ys = (k : ℕ) → unsigned_abs (entry xs k) ≤ unsigned_abs (entry ys k)

-- f times each number is narrow
abbrev pub AreNarrowTimes : ℤ → List ℤ → Type 0
AreNarrowTimes f xs = (k : ℕ) → IsNarrow (f *ℤ entry xs k)

-- the products of f and the numbers ys, and their sums with the numbers xs, are narrow
pub record AreAddable (xs : List ℤ) (f : ℤ) (ys : List ℤ) : Type 0 where
  pub products : (k : ℕ) → IsNarrow (f *ℤ entry ys k)
  pub sums : (k : ℕ) → IsNarrow (entry xs k +ℤ f *ℤ entry ys k)

-- the products of a and the first, and those of b and the second, are below 2^30
pub record AreTurnable (a : ℤ) (xs : List ℤ) (b : ℤ) (ys : List ℤ) : Type 0 where
  pub first : (k : ℕ) → unsigned_abs (a *ℤ entry xs k) < 2 ^ 30
  pub second : (k : ℕ) → unsigned_abs (b *ℤ entry ys k) < 2 ^ 30

-- the products of the numbers place by place, and the sums of the first of them, are narrow
pub record IsSummable (xs ys : List ℤ) : Type 0 where
  pub products : (k : ℕ) → IsNarrow (entry xs k *ℤ entry ys k)
  pub sums : (k : ℕ) → IsNarrow (dot xs (take k ys))

-- place k is the first at which a number is below 0
pub record IsFirstBelow (zs : List ℤ) (k : ℕ) : Type 0 where
  pub inside : k < length zs
  pub below : entry zs k <ℤ pos 0
  pub before : (j : ℕ) → j < k → pos 0 ≤ℤ entry zs j

-- what the quotient by l leaves, rounded down or up
abbrev pub left_of : ℤ → Bool → ℤ → ℤ
left_of l down z = if down then floor_mod z l else neg_ℤ (floor_mod (neg_ℤ z) l)
