-- The rows that forms make of the columns' rows, lane by lane.
use Rattle.std.specs.Prelude.{◌≡◌, ◌+◌, true, false, ℕ, ◌*◌, ◌^◌, ◌<◌, ◌≤◌, ℤ, pos, unsigned_abs, eqb, List, [], ◌∷◌, length, map, slice_index_or, All, if◌then◌else◌}
use Rattle.pip_model.specs.Numbers.{divides}
use Rattle.pip_model.specs.Forms.{entry}
use Rattle.pip_model.specs.Rows.{count_from}
use Rattle.form_laws.specs.Bounds.{norm}
use Rattle.lanes.specs.Narrow.{AreLanes}

-- what the numbers of a form over n columns are multiplied with in lane k: its constant with l in lane 0, the others with those
-- of the columns' rows
abbrev pub line : ℕ → List (List ℤ) → ℤ → ℕ → List ℤ
line n rows l k = (if eqb k 0 then l else pos 0) ∷ map (λ j. entry (slice_index_or rows j []) k) (count_from 0 n)

-- no sum of products passes its bound
pub record IsReadable (n : ℕ) (rows : List (List ℤ)) (l : ℤ) (form : List ℤ) : Type 0 where
  pub most : ℕ
  pub few : n ≤ 7
  pub enough : n ≤ length rows
  pub lanes : All AreLanes rows
  pub within : All (λ x. (k : ℕ) → unsigned_abs (entry x k) ≤ most) rows
  pub common : unsigned_abs l ≤ most
  pub entries : AreLanes form
  pub bound : norm form * most < 2 ^ 31

-- the first i of n constants are multiples of l, the next is not
pub record IsFirstLeft (n : ℕ) (l : ℤ) (at : List ℤ) (i : ℕ) : Type 0 where
  pub inside : i < n
  pub left : divides l (entry at (i + 1)) ≡ false
  pub before : (j : ℕ) → j < i → divides l (entry at (j + 1)) ≡ true
