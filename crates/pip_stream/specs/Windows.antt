-- The bytes of an input from those on that a window holds.
use Rattle.std.specs.Prelude.{◌≡◌, ℕ, ◌+◌, ◌≤◌, List, ◌++◌, length, take, drop, max, true, Option, Some, Result, Ok, Err}
use Rattle.std.specs.List.{list_all}
use Rattle.pip_outside.specs.Windows.{HeldBytes}
use Rattle.pip_model.specs.Limits.{most_input_bytes}
use Rattle.pip_model.specs.Moved.{is_closed}
use Rattle.pip_stream.specs.declared.refusal.NextRefusal.{NextRefusal}
use Rattle.pip_stream.specs.declared.refusal.NextRefusal.TheVariants as next

-- how many bytes of the input were taken: those that were dropped, and those that are held
abbrev pub taken_by : HeldBytes → ℕ
taken_by w = w.base + length w.held

-- the bytes of the input from the held ones on, where these are left in the source
abbrev pub bytes_from : HeldBytes → List ℕ → List ℕ
bytes_from w left = w.held ++ left

-- The first n of these bytes were dropped; those behind are held, or left in the source.
pub record Drops (old : HeldBytes) (left : List ℕ) (new : HeldBytes) (now : Option (List ℕ)) (n : ℕ) : Type 0 where
  pub few : n ≤ length (bytes_from old left)
  pub base : new.base ≡ old.base + n
  pub left_now : List ℕ
  pub told : now ≡ Some left_now
  pub rest : bytes_from new left_now ≡ drop n (bytes_from old left)

-- Bytes were dropped among which no item begins.
pub record Skips (old : HeldBytes) (left : List ℕ) (new : HeldBytes) (now : Option (List ℕ)) : Type 0 where
  pub count : ℕ
  pub drops : Drops old left new now count
  pub closed : list_all is_closed (take count (bytes_from old left)) ≡ true

-- No more than a piece is held, or was held, within the limit of the input.
pub record HoldsPiece (w : HeldBytes) : Type 0 where
  pub few : length w.held ≤ 4096
  pub peak : w.peak ≤ 4096
  pub within : taken_by w ≤ most_input_bytes

-- n bytes came behind the held ones
pub record Grows (old new : HeldBytes) (n : ℕ) : Type 0 where
  pub piece : List ℕ
  pub count : length piece ≡ n
  pub held : new.held ≡ old.held ++ piece
  pub base : new.base ≡ old.base
  pub peak : new.peak ≡ max old.peak (length new.held)

-- What comes of a call for more bytes: some within the limit, or none at the input's end; or the one byte too many.
abbrev pub IsMore : HeldBytes → HeldBytes → Result ℕ NextRefusal → Type 0
IsMore old new (Ok n) = Grows old new n × (n ≤ 4096) × (taken_by new ≤ most_input_bytes)
IsMore old new (Err next.InputBytes) = Grows old new 1 × (taken_by new ≡ most_input_bytes + 1)
IsMore old new (Err (next.Read e)) = ⊥
IsMore old new (Err e) = new ≡ old

-- how many bytes were taken where a search is refused
abbrev pub TakesTo : HeldBytes → NextRefusal → Type 0
TakesTo w next.InputBytes = taken_by w ≡ most_input_bytes + 1
TakesTo w (next.Read e) = ⊥
TakesTo w e = taken_by w ≤ most_input_bytes
