-- A problem without parameters, by the run of its rows alone.
use Rattle.std.proofs.Common.{◌≡◌, subst, Option, Some, None}
use Rattle.std.specs.Prelude.{IfSome, Result}
use Rattle.pip_model.specs.Run.{Work, Outcome, Counted, Refusal}
use Rattle.pip_model.specs.Agreement.{AgreesCounted}
use Rattle.pip_problem.specs.Counts.{IsCountedRun}

-- what is given by one part is given by another that is the same there
pub given_by : {X Y E : Type 0} (view : X → Y) (fault : E → Option Refusal) (o : Option (Result X E)) (w v : Work) (a b : Counted Y) → a w ≡ b w
    → IfSome o (λ r. IsCountedRun view fault r w v a) → IfSome o (λ r. IsCountedRun view fault r w v b)
given_by view fault None w v a b e h = h
given_by {Y = Y} view fault (Some r) w v a b e h = record { agrees = subst (λ (o : Outcome Y). AgreesCounted view fault r v o) e h.agrees; counted = h.counted }
