-- What holds of the run's answers holds of those that are given.
use Rattle.pip_solve.proofs.Words.{◌≡◌, refl, subst, Result, Ok, Err, IfOk, Problem, Budget, IsBudget, Work, Outcome, Done, Refused, answered, solve, IsProblem, IsWellFormedAnswer, Agrees, run_fault}
use Rattle.pip_model.specs.Tree as model
use Rattle.pip_model.specs.Right.{IsRight}
use Rattle.pip_model.specs.Leaves.{IsReached}
use Rattle.run_laws.proofs.SolveRight.{solve-right, leaves-reached}
use Rattle.run_laws.proofs.Headline.{solve-well_formed_answer}
use Rattle.pip_problem.specs.declared.refusal.Refusal as code
use Rattle.quast.specs.declared.answer.Answer as answer
use Rattle.quast.specs.Answers.{answer_of}

module _ (P : Problem) (b : Budget) (r : Result answer.Answer code.Refusal) (given : Agrees answer_of run_fault r (answered (solve b P))) where
  told : (Q : model.Answer → Type 0) → ((a : model.Answer) (w : Work) → solve b P ≡ Done a w → Q a) → IfOk r (λ a. Q (answer_of a))
  told Q holds = by r given
    where
      from : (a : model.Answer) (o : Outcome model.Answer) → solve b P ≡ o → answered o ≡ Ok a → Q a
      from a (Done x w) e h = let same : x ≡ a = cc in subst Q same (holds x w e)
      from a (Refused f w) e h = cc

      by : (r : Result answer.Answer code.Refusal) → Agrees answer_of run_fault r (answered (solve b P)) → IfOk r (λ a. Q (answer_of a))
      by (Ok a) h = from (answer_of a) (solve b P) refl h
      by (Err e) h = tt

  pub is_right : IsProblem P → IfOk r (λ a. IsRight P (answer_of a))
  is_right formed = told (IsRight P) (λ a w e. solve-right P b a w formed e)

  pub is_reached : IsProblem P → IfOk r (λ a. IsReached P (answer_of a))
  is_reached formed = told (IsReached P) (λ a w e. leaves-reached P b a w formed e)

  pub is_well_formed : IsProblem P → IsBudget b → IfOk r (λ a. IsWellFormedAnswer P.params (answer_of a))
  is_well_formed formed budget = told (IsWellFormedAnswer P.params) (λ a w e. solve-well_formed_answer P b a w formed budget.nesting e)
