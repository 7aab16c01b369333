-- Where the group ends that a window begins with.
use Rattle.std.specs.Prelude.{◌≡◌, ◌⊎◌, ℕ, ◌+◌, ◌-◌, ◌≤◌, List, length, take, drop, Option, Some, None, IfSome, Result, Ok, Err}
use Rattle.pip_outside.specs.Windows.{HeldBytes}
use Rattle.pip_model.specs.Limits.{most_input_bytes}
use Rattle.pip_model.specs.Problem.{Problem}
use Rattle.pip_model.specs.Reading.{next_open}
use Rattle.pip_model.specs.NativeText.{read_native}
use Rattle.pip_model.specs.Moved.{moved}
use Rattle.pip_problem.specs.Faults.{read_fault}
use Rattle.pip_reader.specs.Groups.{first_group_end}
use Rattle.pip_stream.specs.Windows.{taken_by, TakesTo}
use Rattle.pip_stream.specs.declared.refusal.NextRefusal.{NextRefusal}
use Rattle.pip_stream.specs.declared.refusal.NextRefusal.TheVariants as next

-- the bytes of the first item: its group, or all where that does not end
abbrev pub IsItem : List ℕ → ℕ → Type 0
IsItem bytes n = (first_group_end bytes ≡ Some n) ⊎ ((first_group_end bytes ≡ None) × (n ≡ length bytes))

-- The item has n bytes, and no piece came behind its end.
pub record HoldsItem (w : HeldBytes) (n : ℕ) : Type 0 where
  pub item : IsItem w.held n
  pub few : n ≤ length w.held
  pub behind : length w.held ≤ n + 4095
  pub peak : w.peak ≤ n + 4095
  pub within : taken_by w ≤ most_input_bytes

-- the group is open in all that is held where the search for its end is refused, but for the one byte too many
abbrev pub IsUnended : HeldBytes → NextRefusal → Type 0
IsUnended w next.InputBytes = first_group_end (take (length w.held - 1) w.held) ≡ None
IsUnended w e = first_group_end w.held ≡ None

-- the window where that search ends
abbrev pub IsEnded : HeldBytes → Result ℕ NextRefusal → Type 0
IsEnded w (Ok n) = HoldsItem w n
IsEnded w (Err e) = IsUnended w e × TakesTo w e

-- A search for the end of a group drops nothing, and leaves a group that the held bytes begin with.
pub record EndsGroup (old new : HeldBytes) (r : Result ℕ NextRefusal) : Type 0 where
  pub place : IsEnded new r
  pub open_still : next_open 0 new.held ≡ Some 0
  pub base : new.base ≡ old.base

-- What is read of the first n bytes, which are dropped where they are a problem.
abbrev pub IsRead : HeldBytes → HeldBytes → ℕ → Result (Option (Problem × ℕ)) NextRefusal → Type 0
IsRead old new n (Ok (Some x)) =
    (x.1 ≡ n) × (first_group_end old.held ≡ Some n) × (read_native (take n old.held) 0 ≡ Ok (Some (x.0, n)))
    × (new ≡ record old { held = drop n old.held; base = old.base + n })
IsRead old new n (Ok None) = ⊥
IsRead old new n (Err (next.Read e)) =
    IfSome (read_fault e) (λ f. moved old.base (read_native (take n old.held) 0) ≡ Err f) × (new ≡ old)
IsRead old new n (Err next.WantOfMemory) = new ≡ old
IsRead old new n (Err e) = ⊥
