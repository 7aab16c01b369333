-- What `solve` writes of native problems, which it reads one by one.
use Rattle.std.specs.Prelude.{◌≡◌, ℕ, ◌+◌, ◌<◌, ◌≤◌, Bool, true, false, MatchBool, List, ◌++◌, length, take, drop, Option, Some, None, IfSome, Result, Ok, Err, IsErrOf}
use Rattle.std.specs.List.{concat}
use Rattle.std.specs.Io.KnownBytes.{Appends}
use Rattle.pip_outside.specs.Calls.{AsksOn, CallsWithin}
use Rattle.pip_model.specs.Limits.{most_input_bytes}
use Rattle.program_model.specs.Commands.{Command, way, item_text}
use Rattle.program_model.specs.Endings as model
use Rattle.program_model.specs.Items.{FirstItemsTo, IsItself}
use Rattle.program_model.specs.Output.{IsOutput, IsFirstOutput}
use Rattle.pip_reader.specs.Groups.{first_group_end}
use Rattle.item_writing.specs.Endings.{told}
use Rattle.item_writing.specs.declared.ending.Ending.{Ending}
use Rattle.item_writing.specs.declared.ending.Ending.TheVariants as ending
use Rattle.item_writing.specs.Items.{Gained, GainedFront}
use Rattle.item_writing.specs.Outputs.{TakesInput, TakesInputAtMost, bytes_read, WritesOutput}

-- whether a command reads problem by problem: each other one that takes an input reads it whole first
abbrev pub reads_by_problem : Command → Bool
reads_by_problem c = (way c).by_problem

-- the command reads its whole input before it answers an item of it
abbrev pub ReadsWhole : Command → Type 0
ReadsWhole c = TakesInput c × (reads_by_problem c ≡ false)

module _ (c : Command) (bytes : List ℕ) (n : ℕ) where
  -- The texts are those of the problems whose groups end within the first n bytes.
  pub record AreEnded (ts : List (List ℕ)) : Type 0 where
    pub place : ℕ
    pub texts : FirstItemsTo (item_text c bytes) IsItself 0 ts place
    pub within : place ≤ n
    pub open_still : first_group_end (drop place (take n bytes)) ≡ None

  -- The texts are those of all problems before one. Where its group ends, the n bytes that were taken are at most a
  -- piece less one more than lead to that: the source was not asked again.
  pub record AreBefore (ts : List (List ℕ)) : Type 0 where
    pub place : ℕ
    pub texts : FirstItemsTo (item_text c bytes) IsItself 0 ts place
    pub spared : (q : ℕ) → first_group_end (drop place bytes) ≡ Some q → n ≤ place + q + 4095

  -- The texts are all up to an end, and no byte past the limit was taken.
  pub record AreAll (e : model.Ending) (ts : List (List ℕ)) : Type 0 where
    pub before : AreBefore ts
    pub output : IsOutput c bytes ts e
    pub within : n ≤ most_input_bytes

-- what a run writes that took so many bytes of an input
module _ (c : Command) (bytes : List ℕ) (taken : ℕ) (before after : Option (List ℕ)) where
  -- all texts up to this end, or those of all problems before the one for which memory was refused
  abbrev pub WritesTillEnd : Option model.Ending → Type 0
  WritesTillEnd (Some e) = Gained (AreAll c bytes taken e) before after
  WritesTillEnd None = Gained (AreBefore c bytes taken) before after

  abbrev pub WritesByProblem : Result (Unit {0}) Ending → Type 0
  WritesByProblem (Ok u) = WritesTillEnd (Some model.finished)
  WritesByProblem (Err ending.Usage) = ⊥
  WritesByProblem (Err ending.ReadFault) = Gained (AreEnded c bytes taken) before after
  WritesByProblem (Err ending.WriteFault) = GainedFront (IsFirstOutput c bytes) before after
  WritesByProblem (Err ending.InputTooLong) =
      (most_input_bytes < length bytes) × Gained (AreEnded c bytes most_input_bytes) before after
  WritesByProblem (Err e) = WritesTillEnd (told e)

  -- the same of any command
  abbrev pub WritesOf : Result (Unit {0}) Ending → Type 0
  WritesOf r = MatchBool (reads_by_problem c) (WritesByProblem r) (WritesOutput c bytes before after r)

-- ---- when the source is called

-- The item at a place is refused; those before it are not.
pub record IsRefusedAt (c : Command) (bytes : List ℕ) (place : ℕ) : Type 0 where
  pub texts : List (List ℕ)
  pub before : FirstItemsTo (item_text c bytes) IsItself 0 texts place
  pub ending : model.Ending
  pub refused : item_text c bytes place ≡ Err ending

-- A command that reads problem by problem does not call the source again once the group of a refused problem has ended.
abbrev pub StopsAtRefused : {S : Type 0} → (S → S → Type 0) → (S → ℕ) → S → S → Command → List ℕ → Type 0
StopsAtRefused Calls taken old new c bytes =
    reads_by_problem c ≡ true → (place n : ℕ) → IsRefusedAt c bytes place
    → first_group_end (drop place bytes) ≡ Some n →
    CallsWithin Calls taken old new 0 (place + n)

-- A write of a text failed: the sink gained the texts of all problems before, and a front of this one. The source was
-- not called again once the group of its problem had ended, so each text is written before the source is asked for more.
pub record WritesInTime {S : Type 0} (Calls : S → S → Type 0) (taken : S → ℕ) (old new : S) (before after : Option (List ℕ))
    (c : Command) (bytes : List ℕ) : Type 0 where
  pub texts : List (List ℕ)
  pub place : ℕ
  pub are : FirstItemsTo (item_text c bytes) IsItself 0 texts place
  pub text : List ℕ
  pub next : ℕ
  pub read : item_text c bytes place ≡ Ok (Some (text, next))
  pub count : ℕ
  pub front : count ≤ length text
  pub gained : Appends before after (concat texts ++ take count text)
  pub size : ℕ
  pub ended : first_group_end (drop place bytes) ≡ Some size
  pub asked : CallsWithin Calls taken old new 0 (place + size)

-- The same of the result of a run: nothing is said of one that does not fail so.
abbrev pub FailsInTime : {S : Type 0} → (S → S → Type 0) → (S → ℕ) → S → S → Option (List ℕ) → Option (List ℕ) → Result (Unit {0}) Ending → Command → List ℕ → Type 0
FailsInTime Calls taken old new before after r c bytes =
    reads_by_problem c ≡ true → IsErrOf r ending.WriteFault → WritesInTime Calls taken old new before after c bytes

-- What a command's run does to its source, where that tells: when it is called, that each call but the last takes a
-- byte, and how many are taken.
pub record CallsBy {S : Type 0} (told : S → Option (List ℕ)) (Calls : S → S → Type 0) (count : S → ℕ) (old new : S)
    (c : Command) : Type 0 where
  pub asked : IfSome (bytes_read c (told old)) (StopsAtRefused Calls count old new c)
  pub turns : IfSome (told old) (λ _. AsksOn Calls count old new)
  pub taken : TakesInputAtMost (told old) (count old) (count new)
