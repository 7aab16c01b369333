-- The next native problem of an input, read, answered and written in one call.
use Rattle.std.specs.Prelude.{◌≡◌, ◌⊎◌, ℕ, Bool, true, false, List, Option, IfSome, Result, Ok, Err}
use Rattle.std.specs.Io.KnownBytes.{Appends}
use Rattle.pip_outside.specs.Bytes.{AppendsFront}
use Rattle.pip_outside.specs.Windows.{HeldBytes}
use Rattle.pip_model.specs.Problem.{Problem}
use Rattle.program_model.specs.Commands.{SolveOptions, Solve, text_of}
use Rattle.pip_stream.specs.Next.{ReadsNext, ReadsNone, FindsNext, IsReady}
use Rattle.pip_stream.specs.declared.refusal.NextRefusal.{NextRefusal}
use Rattle.item_writing.specs.Endings.{told, IsOfItem}
use Rattle.item_writing.specs.InputEndings.{next_ending}
use Rattle.item_writing.specs.declared.ending.Ending.{Ending}
use Rattle.item_writing.specs.declared.ending.Ending.TheVariants as ending

module _ (o : SolveOptions) (old : HeldBytes) (left : List ℕ) (new : HeldBytes) (now : Option (List ℕ)) where
  -- The problem is read, and the sink gained such bytes of the text of its answer.
  pub record Answers (Gains : List ℕ → Type 0) : Type 0 where
    pub problem : Problem
    pub size : ℕ
    pub reads : ReadsNext old left new now problem size
    pub text : List ℕ
    pub made : text_of (Solve o) problem ≡ Ok text
    pub gained : Gains text

  -- The problem is read, and its answer is refused.
  pub record IsUnanswered (e : Ending) : Type 0 where
    pub problem : Problem
    pub size : ℕ
    pub reads : ReadsNext old left new now problem size
    pub ready : IsReady new
    pub own : IsOfItem e
    pub refused : IfSome (told e) (λ f. text_of (Solve o) problem ≡ Err f)

  -- The problem is not read.
  pub record IsUnread (e : Ending) : Type 0 where
    pub refusal : NextRefusal
    pub is : e ≡ next_ending refusal
    pub finds : FindsNext old left new now (Err refusal)

  -- The text, whole, is gained, or no problem is left; at a failed write a front of it.
  abbrev pub AnswersNext : (before after : Option (List ℕ)) → Result Bool Ending → Type 0
  AnswersNext before after (Ok true) = Answers (Appends before after)
  AnswersNext before after (Ok false) = ReadsNone old left new now
  AnswersNext before after (Err ending.WriteFault) = Answers (AppendsFront before after)
  AnswersNext before after (Err e) = IsUnread e ⊎ IsUnanswered e
