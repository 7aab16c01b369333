-- A refutation is made exactly where the forms have no point, and is refused as the point would be.
use Rattle.refutation_steps.proofs.Words.{Option, Some, None, List, ℤ, ℕ, ◌≡◌, refl, Ok, Refutation, Work, Outcome, Done, refute, run_fault, subst, Result, Err, IfErr, IfSome, Refused, point}
use Rattle.pip_model.specs.Agreement.{AgreesCounted}
use Rattle.pip_model.specs.Contexts.{IsContext, IsPointRefusal}
use Rattle.pip_model.specs.RefutedPoint.{IsRefutedPoint}
use Rattle.pip_model.specs.Run as run
use Rattle.pip_problem.specs.declared.refusal.Refusal.{Refusal}
use Rattle.run_laws.proofs.ContextRight.{narrow_of}
use Rattle.run_laws.proofs.PointRefusals.{point-refusal}
use Rattle.refutation_laws.proofs.SameRun.{refute-same}

module _ (w : ℕ) (K : List (List ℤ)) (before after : Work) (h : IsContext w K) (places : List ℤ) (first : ℤ) where
  pub point_refuted : IsRefutedPoint (point w K before) (refute w K places first before)
  point_refuted = refute-same w K places first before (narrow_of w K h)

  of_point : (e : run.Refusal) → refute w K places first before ≡ Refused e after → IsPointRefusal e
  of_point e is = by (point w K before) refl (subst (IsRefutedPoint (point w K before)) is point_refuted)
    where
      by : (o : Outcome (Option (List ℤ))) → point w K before ≡ o → IsRefutedPoint o (Refused e after) → IsPointRefusal e
      by (Done (Some p) x) found same = absurd same
      by (Done None x) found same = absurd same
      by (Refused f x) found same = subst IsPointRefusal same.0 (point-refusal w K f before x h found)

  made_refused : (f : Option run.Refusal) → IfSome f (λ e. refute w K places first before ≡ Refused e after) → IfSome f IsPointRefusal
  made_refused None is = tt
  made_refused (Some e) is = of_point e is

  pub refute_refuses : (r : Result (Option Refutation) Refusal) → AgreesCounted (λ o. o) run_fault r after (refute w K places first before) → IfErr r (λ e. IfSome (run_fault e) IsPointRefusal)
  refute_refuses (Ok o) gives = tt
  refute_refuses (Err e) gives = made_refused (run_fault e) gives
