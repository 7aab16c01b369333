-- What a part of a run counts, however it ends.
use Rattle.std.specs.Prelude.{◌≡◌, ◌+◌, ◌≤◌, Option, Result}
use Rattle.affine_forms.specs.Run.{Work, Counted, Refusal}
use Rattle.affine_forms.specs.Agreement.{AgreesCounted}
use Rattle.pip_problem.specs.declared.work.Counts.{Counts}

-- the budget is as before, and no count fell
pub record HasCounted (before now : Work) : Type 0 where
  pub budget : now.budget ≡ before.budget
  pub pivots : before.pivots ≤ now.pivots
  pub cuts : before.cuts ≤ now.cuts
  pub splits : before.splits ≤ now.splits

-- what a call answered, seen by `view`, is what this part of the run gives after what was counted before, and it
-- has counted the same
pub record IsCountedRun {X Y E : Type 0} (view : X → Y) (fault : E → Option Refusal) (result : Result X E)
    (before now : Work) (part : Counted Y) : Type 0 where
  pub agrees : AgreesCounted view fault result now (part before)
  pub counted : HasCounted before now

-- so much is counted more
abbrev pub counted_more : Work → Counts → Work
counted_more w counts =
    record w { pivots = w.pivots + counts.pivots; cuts = w.cuts + counts.cuts; splits = w.splits + counts.splits }

-- so much more has room in the budget
pub record HasRoomFor (w : Work) (counts : Counts) : Type 0 where
  pub pivots : w.pivots + counts.pivots ≤ w.budget.pivots
  pub cuts : w.cuts + counts.cuts ≤ w.budget.cuts
  pub splits : w.splits + counts.splits ≤ w.budget.splits
