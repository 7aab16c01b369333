-- What the program promises of its status, its sink and its notes.
use Rattle.std.specs.Prelude.{◌≡◌, ◌≢◌, ◌⊎◌, ℕ, ◌<◌, ◌≤◌, List, length, Option, Some, None, MatchBool}
use Rattle.pip_model.specs.Limits.{most_input_bytes}
use Rattle.std.specs.List.{concat}
use Rattle.std.specs.Io.KnownBytes.{Appends, Keeps}
use Rattle.pip_outside.specs.Bytes.{AppendsFront}
use Rattle.pip_outside.specs.Faults.{HasRisen}
use Rattle.program_model.specs.Endings.{Ending, all_done, wrong_words, read_failed, write_failed, memory_refused, past_limit}
use Rattle.program_model.specs.Endings.{finished, usage_ending, read_fault_ending, write_fault_ending, memory_ending}
use Rattle.program_model.specs.Endings.{input_ending, notes_of}
use Rattle.program_model.specs.Commands.{Command}
use Rattle.program_model.specs.Output.{IsOutput, IsFirstOutput, IsRightOutput, IsRightFirstOutput}
use Rattle.item_writing.specs.Endings.{ending_of}
use Rattle.item_writing.specs.declared.ending.Ending.{Ending as Refused}
use Rattle.item_writing.specs.Items.{Gained, GainedFront}
use Rattle.item_writing.specs.Outputs.{IsWithin, IsTooLong}
use Rattle.item_writing.specs.ByProblem.{reads_by_problem, AreEnded, AreBefore, AreAll}

-- ---- the status

-- an input that is told and within its limit
abbrev pub IsShort : Option (List ℕ) → Type 0
IsShort None = ⊥
IsShort (Some bytes) = length bytes ≤ most_input_bytes

-- no end that may come before the whole of such an input is read
abbrev pub IsAfterInput : Option (List ℕ) → ℕ → Type 0
IsAfterInput left status =
    (status ≢ wrong_words) × (status ≢ read_failed) × (status ≢ memory_refused) × (status ≡ past_limit → IsShort left)

-- no fault of the outside and no want of memory ends the run early
abbrev pub IsOfItems : ℕ → Type 0
IsOfItems status = (status ≢ read_failed) × (status ≢ write_failed) × (status ≢ memory_refused)

-- ---- the notes

-- why a run ends: all is done, or the refusal
abbrev pub ending_by : Option Refused → Ending
ending_by None = finished
ending_by (Some e) = ending_of e

-- The notes gained the line of an ending, whole, or a front of it where a write of it failed.
abbrev pub GainsLine : (before after : Option (List ℕ)) (faults_before faults_after : ℕ) → Ending → Type 0
GainsLine before after faults_before faults_after e =
    Appends before after (notes_of e) ⊎ (AppendsFront before after (notes_of e) × HasRisen faults_before faults_after)

-- The notes gained the line of a cause that has this status; of a status that one cause has alone, it is that cause's.
pub record IsNoted (Noted : Ending → Type 0) (status : ℕ) : Type 0 where
  pub cause : (cause : Option Refused) × (status ≡ (ending_by cause).status) × Noted (ending_by cause)
  pub done : status ≡ all_done → Noted finished
  pub usage : status ≡ wrong_words → Noted usage_ending
  pub read_fault : status ≡ read_failed → Noted read_fault_ending
  pub write_fault : status ≡ write_failed → Noted write_fault_ending
  pub want_of_memory : status ≡ memory_refused → Noted memory_ending

-- ---- the sink

-- the texts of the command's first items, right ones
abbrev pub AreFirst : Command → List ℕ → List (List ℕ) → Type 0
AreFirst c bytes ts = IsFirstOutput c bytes ts × IsRightFirstOutput c bytes ts

-- how a run of a command over an input ends that has these bytes
module _ (c : Command) (bytes : List ℕ) (before after : Option (List ℕ)) where
  -- The sink gained the command's texts for the input, whole and in order; its end is the status and the notes' line.
  pub record EndsWith (Noted : Ending → Type 0) (status : ℕ) : Type 0 where
    pub texts : List (List ℕ)
    pub ending : Ending
    pub output : IsOutput c bytes texts ending
    pub written : Appends before after (concat texts)
    pub status_is : status ≡ ending.status
    pub noted : Noted ending

  -- The input is too long, unless it was not read to that place: nothing is written.
  pub record EndsAtLimit (Noted : Ending → Type 0) (status : ℕ) : Type 0 where
    pub statuses : (status ≡ past_limit) ⊎ ((status ≡ read_failed) ⊎ (status ≡ memory_refused))
    pub noted : status ≡ past_limit → Noted input_ending
    pub nothing : Keeps before after

  -- How a command's run over an input ends.
  pub record HasEnded (Noted : Ending → Type 0) (status : ℕ) : Type 0 where
    pub whole : IsWithin c bytes → IsOfItems status → EndsWith Noted status
    pub too_long : IsTooLong c bytes → EndsAtLimit Noted status
    pub read_fault : status ≡ read_failed → Keeps before after
    pub write_fault : status ≡ write_failed → GainedFront (AreFirst c bytes) before after
    pub want_of_memory : status ≡ memory_refused → Gained (AreFirst c bytes) before after

  -- The sink gained texts, each of which is right for the item in its place, and so is the end.
  pub record GainsRight (status : ℕ) : Type 0 where
    pub texts : List (List ℕ)
    pub ending : Ending
    pub right : IsRightOutput c bytes texts ending
    pub written : Appends before after (concat texts)
    pub status_is : status ≡ ending.status

  abbrev pub AnswersRight : ℕ → Type 0
  AnswersRight status = IsWithin c bytes → IsOfItems status → GainsRight status

  -- Where no item is refused, all is done, or memory was refused.
  abbrev pub Completes : ℕ → Type 0
  Completes status =
      IsWithin c bytes → (ts : List (List ℕ)) → IsOutput c bytes ts finished →
      ((status ≡ all_done) × Appends before after (concat ts)) ⊎ (status ≡ memory_refused)

-- ---- where native problems are read and answered one by one

-- the texts of the problems whose groups end within the first n bytes, right ones
abbrev pub AreFirstEnded : Command → List ℕ → ℕ → List (List ℕ) → Type 0
AreFirstEnded c bytes n ts = AreEnded c bytes n ts × IsRightFirstOutput c bytes ts

-- those of all problems before one, right ones
abbrev pub AreFirstBefore : Command → List ℕ → ℕ → List (List ℕ) → Type 0
AreFirstBefore c bytes n ts = AreBefore c bytes n ts × IsRightFirstOutput c bytes ts

-- how a run ends that reads problem by problem, and took so many of an input's bytes
module _ (c : Command) (bytes : List ℕ) (taken : ℕ) (before after : Option (List ℕ)) where
  -- The sink gained all texts up to the end whose status and line these are, however long the input is. Behind the
  -- group of a refused problem the source was not asked again.
  pub record EndsByProblem (Noted : Ending → Type 0) (status : ℕ) : Type 0 where
    pub texts : List (List ℕ)
    pub ending : Ending
    pub all : AreAll c bytes taken ending texts
    pub right : IsRightOutput c bytes texts ending
    pub written : Appends before after (concat texts)
    pub status_is : status ≡ ending.status
    pub noted : Noted ending

  -- The byte past the limit came before the end: the texts are those of the problems that end within the limit.
  pub record StopsAtLimit (Noted : Ending → Type 0) (status : ℕ) : Type 0 where
    pub status_is : status ≡ past_limit
    pub long : most_input_bytes < length bytes
    pub noted : Noted input_ending
    pub written : Gained (AreFirstEnded c bytes most_input_bytes) before after

  pub record HasEndedByProblem (Noted : Ending → Type 0) (status : ℕ) : Type 0 where
    pub end : IsOfItems status → EndsByProblem Noted status ⊎ StopsAtLimit Noted status
    pub read_fault : status ≡ read_failed → Gained (AreFirstEnded c bytes taken) before after
    pub write_fault : status ≡ write_failed → GainedFront (AreFirst c bytes) before after
    pub want_of_memory : status ≡ memory_refused → Gained (AreFirstBefore c bytes taken) before after

  -- how a run of any command ends
  abbrev pub EndsAs : (Ending → Type 0) → ℕ → Type 0
  EndsAs Noted status =
      MatchBool (reads_by_problem c) (HasEndedByProblem Noted status) (HasEnded c bytes before after Noted status)
