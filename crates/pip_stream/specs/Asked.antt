-- What a search in an input does to its source: how its calls count, and while which group is open they are made.
use Rattle.std.specs.Prelude.{◌≡◌, ℕ, ◌+◌, Bool, true, false, List, length, Option, Some, Result, Ok, Err}
use Rattle.pip_outside.specs.Calls.{Takes, AsksOn, CallsWithin}
use Rattle.pip_outside.specs.Windows.{HeldBytes}
use Rattle.pip_reader.specs.Groups.{first_group_end}
use Rattle.pip_stream.specs.Windows.{taken_by, bytes_from, Drops, Skips}

-- whether what is sought is found
abbrev pub is_found : {E : Type 0} → Result Bool E → Bool
is_found (Ok found) = found
is_found (Err e) = false

-- whether a group ends, at this place
abbrev pub is_ended : {E : Type 0} → Result ℕ E → Option ℕ → Bool
is_ended (Ok n) (Some end) = true
is_ended r end = false

-- whether there is one
abbrev pub is_there : {A E : Type 0} → Result (Option A) E → Bool
is_there (Ok (Some x)) = true
is_there r = false

module _ {S : Type 0} (Calls : S → S → Type 0) (taken : S → ℕ) (old new : S) where
  -- The source is not called again once the first group has ended of the bytes from the held ones on.
  abbrev pub AsksWhileOpen : HeldBytes → List ℕ → Type 0
  AsksWhileOpen w left =
      (n : ℕ) → first_group_end (bytes_from w left) ≡ Some n → CallsWithin Calls taken old new (length w.held) n

  -- Each call takes a byte where what is sought is found; where it is not, each but the last.
  abbrev pub AsksInTurns : Bool → Type 0
  AsksInTurns true = Takes Calls taken old new
  AsksInTurns false = AsksOn Calls taken old new

  -- The calls of a search that finds what is sought, or not: all bytes that come count as taken.
  pub record CallsFor (w v : HeldBytes) (left : List ℕ) (found : Bool) : Type 0 where
    pub counted : taken new + taken_by w ≡ taken old + taken_by v
    pub asked : AsksWhileOpen w left
    pub turns : AsksInTurns found

  -- A search that drops bytes among which no item begins.
  pub record Seeks (w v : HeldBytes) (left : List ℕ) (now : Option (List ℕ)) (found : Bool) : Type 0 where
    pub skips : Skips w left v now
    pub calls : CallsFor w v left found

-- What comes is held, and counts as taken.
pub record TakesMore {S : Type 0} (taken : S → ℕ) (old new : S) (w v : HeldBytes) (left : List ℕ)
    (now : Option (List ℕ)) : Type 0 where
  pub drops : Drops w left v now 0
  pub counted : taken new + taken_by w ≡ taken old + taken_by v
