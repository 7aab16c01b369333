-- What a source gives and a sink takes, where they tell.
use Rattle.std.specs.Prelude.{◌≡◌, ℕ, ◌<◌, ◌≤◌, List, length, take, Option, MatchResult, Result, Ok, Err, IsErr}
use Rattle.std.specs.Io.KnownBytes.{Appends}
use Rattle.pip_outside.specs.Faults.{CountsFaults}

-- how many bytes a call moved
abbrev pub count_of : {E : Type 0} → Result ℕ E → ℕ
count_of (Ok n) = n
count_of (Err e) = 0

-- the bytes told grew by some front of these
abbrev pub AppendsFront : Option (List ℕ) → Option (List ℕ) → List ℕ → Type 0
AppendsFront old new bytes = (n : ℕ) × (n ≤ length bytes) × Appends old new (take n bytes)

-- all bytes at Ok, a front of them at a failure
abbrev pub WritesAll : {E : Type 0} → Option (List ℕ) → Option (List ℕ) → Result (Unit {0}) E → List ℕ → Type 0
WritesAll old new r bytes = MatchResult r (λ _. Appends old new bytes) (λ _. AppendsFront old new bytes)

-- a write takes at most the piece, and some of one that is not empty
abbrev pub TakesPiece : {E : Type 0} → Result ℕ E → List ℕ → Type 0
TakesPiece r piece = MatchResult r (λ n. (n ≤ length piece) × (0 < length piece → 0 < n)) (λ _. Unit {0})

-- a writer of std gained the bytes that a write tells; at a failure a front of the piece, since its flush may have
-- failed
abbrev pub WriterTakes : {E : Type 0} → Option (List ℕ) → Option (List ℕ) → Result ℕ E → List ℕ → Type 0
WriterTakes old new r piece = MatchResult r (λ n. Appends old new (take n piece)) (λ _. AppendsFront old new piece)

-- These bytes are written to a sink, a front of them where a write fails.
pub record WritesBytes {K E : Type 0} (written : K → Option (List ℕ)) (count : K → ℕ) (old new : K)
    (result : Result (Unit {0}) E) (text : List ℕ) : Type 0 where
  pub bytes : WritesAll (written old) (written new) result text
  pub faults : CountsFaults (IsErr result) (count old) (count new)

-- ---- before the first call

-- A source tells these bytes, if any; none is taken, and no fault is counted.
pub record IsUnread {S : Type 0} (told : S → Option (List ℕ)) (moved count : S → ℕ) (source : S)
    (bytes : Option (List ℕ)) : Type 0 where
  pub left : told source ≡ bytes
  pub taken : moved source ≡ 0
  pub faults : count source ≡ 0

-- A sink tells these bytes, if any; no fault is counted.
pub record IsUnwritten {K : Type 0} (told : K → Option (List ℕ)) (count : K → ℕ) (sink : K)
    (bytes : Option (List ℕ)) : Type 0 where
  pub written : told sink ≡ bytes
  pub faults : count sink ≡ 0
