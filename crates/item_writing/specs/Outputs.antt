-- What a command writes of an input that is told, by how it ends.
use Rattle.std.specs.Prelude.{◌≡◌, ◌⊎◌, ℕ, ◌+◌, ◌<◌, ◌≤◌, List, [], length, Option, Some, IfSome, Result, Err, IsErrOf, ⊤, MatchBool, if◌then◌else◌}
use Rattle.std.specs.Io.KnownBytes.{Keeps}
use Rattle.pip_outside.specs.Faults.{HasRisen}
use Rattle.pip_model.specs.Limits.{most_input_bytes}
use Rattle.program_model.specs.Commands.{Command, way}
use Rattle.program_model.specs.Output.{IsOutput, IsFirstOutput}
use Rattle.item_writing.specs.declared.ending.Ending.{Ending}
use Rattle.item_writing.specs.declared.ending.Ending.TheVariants as ending
use Rattle.item_writing.specs.Items.{Writes}

-- the command takes an input: every one but the trial
abbrev pub TakesInput : Command → Type 0
TakesInput c = MatchBool (way c).takes_input ⊤ ⊥

-- the bytes that a command reads, where they are told: the trial reads none
abbrev pub bytes_read : Command → Option (List ℕ) → Option (List ℕ)
bytes_read c left = if (way c).takes_input then left else Some []

abbrev pub IsWithin : Command → List ℕ → Type 0
IsWithin c bytes = TakesInput c → length bytes ≤ most_input_bytes

abbrev pub IsTooLong : Command → List ℕ → Type 0
IsTooLong c bytes = TakesInput c × (most_input_bytes < length bytes)

-- the texts of an input within its limit, or nothing where the input is not read
module _ (c : Command) (bytes : List ℕ) (before after : Option (List ℕ)) where
  abbrev pub WritesWithin : Result (Unit {0}) Ending → Type 0
  WritesWithin r = IsWithin c bytes × Writes (IsFirstOutput c bytes) (IsOutput c bytes) before after r

  abbrev pub WritesOutput : Result (Unit {0}) Ending → Type 0
  WritesOutput (Err ending.Usage) = ⊥
  WritesOutput (Err ending.ReadFault) = Keeps before after
  WritesOutput (Err ending.InputTooLong) = IsTooLong c bytes × Keeps before after
  WritesOutput (Err ending.WantOfMemory) = Keeps before after ⊎ WritesWithin (Err ending.WantOfMemory)
  WritesOutput r = WritesWithin r

-- the whole input is read, whatever its items are
abbrev pub IsRead : Result (Unit {0}) Ending → Type 0
IsRead (Err ending.Usage) = ⊥
IsRead (Err ending.ReadFault) = ⊥
IsRead (Err ending.InputTooLong) = ⊥
IsRead (Err ending.WantOfMemory) = ⊥
IsRead r = ⊤

-- ---- the source and the sink, whatever they tell

-- no more is taken of a source that tells than one byte past the most that an input may have
abbrev pub TakesInputAtMost : Option (List ℕ) → ℕ → ℕ → Type 0
TakesInputAtMost left before after = IfSome left (λ _. after ≤ before + (most_input_bytes + 1))

-- The faults of the source and of the sink are counted, and each of them ends the run.
pub record EndsByFaults {T : Type 0} (read_before read_after write_before write_after : ℕ)
    (r : Result T Ending) : Type 0 where
  pub read_fault : IsErrOf r ending.ReadFault → HasRisen read_before read_after
  pub write_fault : IsErrOf r ending.WriteFault → HasRisen write_before write_after
  pub read_quiet : ¬ IsErrOf r ending.ReadFault → read_after ≡ read_before
  pub write_quiet : ¬ IsErrOf r ending.WriteFault → write_after ≡ write_before
