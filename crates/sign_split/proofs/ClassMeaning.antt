-- What a class tells of its context.
use Rattle.sign_split.proofs.Words.{Option, Some, None, List, ℤ, ℕ, ◌+◌, ◌≤◌, ◌≡◌, ◌∙◌, ap, arith, length, Result, Ok, Err, IfOk, IfErr, IfSome, Work, Outcome, Refused, go_on, give, class, widen_to, run_fault, class_of, widened_class, IsContext, ClassTells, IsPointRefusal, length-widened}
use Rattle.pip_model.specs.Run as run
use Rattle.pip_model.specs.Agreement.{AgreesCounted}
use Rattle.pip_problem.specs.declared.refusal.Refusal.{Refusal}
use Rattle.run_laws.proofs.ContextRight.{class-tells}
use Rattle.run_laws.proofs.PointRefusals.{class-refusal}
use Rattle.sign_split.proofs.Widening.{class_widened}
use Rattle.sign_split.specs.declared.classes.Class.{Class}

module _ (w : ℕ) (K : List (List ℤ)) (t : List ℤ) (before after : Work) (h : IsContext w K) (some : 1 ≤ length t) (narrow : length t ≤ w + 1) where
  pub class_means : (r : Result Class Refusal) → AgreesCounted class_of run_fault r after (class K w t before) → IfOk r (λ c. ClassTells w K (widen_to w t) (widened_class w (class_of c)))
  class_means (Ok c) gives =
      class-tells w K (widen_to w t) (widened_class w (class_of c)) before after h (length-widened w t (omega (arith, narrow)))
      (class_widened w K t before some narrow ∙ ap (λ (o : Outcome run.Class). go_on o (λ k. give (widened_class w k))) gives)
  class_means (Err e) gives = tt

  refused : (f : Option run.Refusal) → IfSome f (λ e. class K w t before ≡ Refused e after) → IfSome f IsPointRefusal
  refused None is = tt
  refused (Some e) is =
      class-refusal w K (widen_to w t) e before after h (length-widened w t (omega (arith, narrow)))
      (class_widened w K t before some narrow ∙ ap (λ (o : Outcome run.Class). go_on o (λ k. give (widened_class w k))) is)

  pub class_refuses : (r : Result Class Refusal) → AgreesCounted class_of run_fault r after (class K w t before) → IfErr r (λ e. IfSome (run_fault e) IsPointRefusal)
  class_refuses (Ok c) gives = tt
  class_refuses (Err e) gives = refused (run_fault e) gives
