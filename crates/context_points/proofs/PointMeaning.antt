-- What a point's answer tells of its context.
use Rattle.context_points.proofs.Words.{Option, Some, None, List, ℤ, ℕ, ◌≡◌, Result, Ok, Err, IfOk, IfErr, IfSome, Work, Refused, point, IsContext, PointTells, IsPointRefusal, AgreesCounted, run_fault}
use Rattle.pip_model.specs.Run as run
use Rattle.pip_problem.specs.declared.refusal.Refusal.{Refusal}
use Rattle.run_laws.proofs.ContextRight.{point-tells}
use Rattle.run_laws.proofs.PointRefusals.{point-refusal}

module _ (w : ℕ) (K : List (List ℤ)) (before after : Work) (h : IsContext w K) where
  pub point_means : (r : Result (Option (List ℤ)) Refusal) → AgreesCounted (λ o. o) run_fault r after (point w K before) → IfOk r (PointTells w K)
  point_means (Ok o) gives = point-tells w K o before after h gives
  point_means (Err e) gives = tt

  refused : (f : Option run.Refusal) → IfSome f (λ e. point w K before ≡ Refused e after) → IfSome f IsPointRefusal
  refused None is = tt
  refused (Some e) is = point-refusal w K e before after h is

  pub point_refuses : (r : Result (Option (List ℤ)) Refusal) → AgreesCounted (λ o. o) run_fault r after (point w K before) → IfErr r (λ e. IfSome (run_fault e) IsPointRefusal)
  point_refuses (Ok o) gives = tt
  point_refuses (Err e) gives = refused (run_fault e) gives
