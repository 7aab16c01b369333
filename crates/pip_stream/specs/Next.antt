-- The problem that is next in an input, of which a window holds the bytes that were taken and not yet dropped.
use Rattle.std.specs.Prelude.{◌≡◌, ◌↔◌, ℕ, ◌+◌, ◌-◌, ◌<◌, ◌≤◌, List, [], length, take, Option, Some, None, IfSome, Result, Ok, Err, IfOk, IsErrOf}
use Rattle.pip_outside.specs.Windows.{HeldBytes}
use Rattle.pip_model.specs.Limits.{most_input_bytes}
use Rattle.pip_model.specs.Problem.{Problem}
use Rattle.pip_model.specs.Reading.{next_open}
use Rattle.pip_model.specs.NativeText.{read_native}
use Rattle.pip_model.specs.Moved.{moved}
use Rattle.pip_problem.specs.Faults.{read_fault}
use Rattle.pip_problem.specs.declared.refusal.ReadRefusal.{ReadRefusal}
use Rattle.pip_reader.specs.Groups.{first_group_end}
use Rattle.pip_stream.specs.Windows.{taken_by, bytes_from, Drops, Skips}
use Rattle.pip_stream.specs.declared.refusal.NextRefusal.{NextRefusal}
use Rattle.pip_stream.specs.declared.refusal.NextRefusal.TheVariants as next

-- a window and what is left in its source before a call, and after it
module _ (old : HeldBytes) (left : List ℕ) (new : HeldBytes) (now : Option (List ℕ)) where
  -- The problem that is read of the input from the held bytes on. Its group has n bytes, which are dropped with
  -- those before it.
  pub record ReadsNext (P : Problem) (n : ℕ) : Type 0 where
    pub start : ℕ
    pub opened : next_open 0 (bytes_from old left) ≡ Some start
    pub ended : first_group_end (bytes_from old left) ≡ Some (start + n)
    pub read : read_native (bytes_from old left) 0 ≡ Ok (Some (P, start + n))
    pub drops : Drops old left new now (start + n)

  -- No problem is left, and all bytes are dropped.
  pub record ReadsNone : Type 0 where
    pub read : read_native (bytes_from old left) 0 ≡ Ok None
    pub drops : Drops old left new now (length (bytes_from old left))
    pub end : now ≡ Some []

  -- bytes among which no item begins were dropped, and the others that were taken are held
  abbrev pub HoldsRest : Type 0
  HoldsRest = Skips old left new now

  -- The next problem is not read; no piece came behind the end of its group.
  pub record IsSpared : Type 0 where
    pub rest : HoldsRest
    pub spared : (n : ℕ) → first_group_end (bytes_from old left) ≡ Some n → taken_by new ≤ old.base + n + 4095

  -- Its text is refused; nothing is said of it where there was no memory to read it.
  pub record RefusesNext (e : ReadRefusal) : Type 0 where
    pub read : IfSome (read_fault e) (λ f. moved old.base (read_native (bytes_from old left) 0) ≡ Err f)
    pub kept : IsSpared

  -- The next group does not end within the first n bytes.
  pub record StaysOpen (n : ℕ) : Type 0 where
    pub open_still : first_group_end (take n (bytes_from old left)) ≡ None
    pub rest : HoldsRest

  -- What a call for the next problem finds.
  abbrev pub FindsNext : Result (Option (Problem × ℕ)) NextRefusal → Type 0
  FindsNext (Ok (Some x)) = ReadsNext x.0 x.1
  FindsNext (Ok None) = ReadsNone
  FindsNext (Err (next.Read e)) = RefusesNext e
  FindsNext (Err next.Failed) = StaysOpen (taken_by new - old.base)
  FindsNext (Err next.InputBytes) = StaysOpen (most_input_bytes - old.base)
  FindsNext (Err next.WantOfMemory) = IsSpared

-- the most that was held: the bytes of the item and a piece less one, or a piece where none is left
abbrev pub IsPeak : HeldBytes → Option (Problem × ℕ) → Type 0
IsPeak w (Some x) = w.peak ≤ 4095 + x.1
IsPeak w None = w.peak ≤ 4096

-- A window is ready for a call.
pub record IsReady (w : HeldBytes) : Type 0 where
  pub few : length w.held ≤ 4095
  pub within : taken_by w ≤ most_input_bytes

-- The window behind a call, whatever the source tells.
pub record LeavesWindow (old new : HeldBytes) (r : Result (Option (Problem × ℕ)) NextRefusal) : Type 0 where
  pub ready : IfOk r (λ _. IsReady new)
  pub peak : IfOk r (IsPeak new)
  pub dropped : IfOk r (λ o. IfSome o (λ x. (0 < x.1) × (old.base + x.1 ≤ new.base)))
  pub base : old.base ≤ new.base
  pub bound : taken_by new ≤ most_input_bytes + 1
  pub limit : IsErrOf r next.InputBytes ↔ (most_input_bytes < taken_by new)
