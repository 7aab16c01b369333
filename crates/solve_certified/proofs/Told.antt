-- What holds of the definition's answers and certificates holds of those that are given.
use Rattle.solve_certified.proofs.Words.{◌≡◌, refl, subst, Result, Ok, Err, true, IfOk, Problem, Certificate, solve_with_certificate, Budget, IsBudget, Work, Outcome, Done, Refused, answered, solve, IsProblem, IsWellFormedAnswer, solve-right, leaves-reached, certificate-not_rejected, certified-answer, certificate-fits, run_fault, answer_of}
use Rattle.std.proofs.Common.{Option, Some, None}
use Rattle.pip_model.specs.Tree as tree
use Rattle.pip_model.specs.Right.{IsRight}
use Rattle.pip_model.specs.Leaves.{IsReached}
use Rattle.pip_model.specs.Agreement.{Agrees}
use Rattle.run_laws.proofs.Headline.{solve-well_formed_answer}
use Rattle.affine_forms.specs.declared.numbers.Overflow.{Overflow}
use Rattle.pip_problem.specs.declared.refusal.Refusal as code
use Rattle.quast.specs.declared.answer.Answer as answer
use Rattle.solve_certified.specs.Certified.{certificate_in, certified_of, IsCertificateOf}

abbrev Given : Type 0
Given = answer.Answer × Result Certificate Overflow

abbrev Meant : Type 0
Meant = tree.Answer × Option Certificate

-- of the certificate, where there is one
abbrev OfCertificate : (Certificate → Type 0) → Option Certificate → Type 0
OfCertificate Q None = Unit {0}
OfCertificate Q (Some c) = Q c

of_given : (Q : Certificate → Type 0) (r : Result Certificate Overflow) → OfCertificate Q (certificate_in r) → IfOk r Q
of_given Q (Ok c) h = h
of_given Q (Err e) h = tt

module _ (P : Problem) (b : Budget) (r : Result Given code.Refusal) (given : Agrees certified_of run_fault r (answered (solve_with_certificate b P))) where
  told : (Q : Meant → Type 0) → ((a : tree.Answer) (c : Option Certificate) (w : Work) → solve_with_certificate b P ≡ Done (a, c) w → Q (a, c)) → IfOk r (λ x. Q (certified_of x))
  told Q holds = by r given
    where
      from : (m : Meant) (o : Outcome Meant) → solve_with_certificate b P ≡ o → answered o ≡ Ok m → Q m
      from m (Done x w) e h = let same : x ≡ m = cc in subst Q same (holds x.0 x.1 w e)
      from m (Refused f w) e h = cc

      by : (r : Result Given code.Refusal) → Agrees certified_of run_fault r (answered (solve_with_certificate b P)) → IfOk r (λ x. Q (certified_of x))
      by (Ok x) h = from (certified_of x) (solve_with_certificate b P) refl h
      by (Err e) h = tt

  of_answer : (Q : tree.Answer → Type 0) → ((a : tree.Answer) (v : Work) → solve b P ≡ Done a v → Q a) → IfOk r (λ x. Q (answer_of x.0))
  of_answer Q holds = told (λ m. Q m.0) (λ a c w e. let s = certified-answer P b a c w e in holds a s.0 s.1)

  pub is_right : IsProblem P → IfOk r (λ x. IsRight P (answer_of x.0))
  is_right formed = of_answer (IsRight P) (λ a v e. solve-right P b a v formed e)

  pub is_reached : IsProblem P → IfOk r (λ x. IsReached P (answer_of x.0))
  is_reached formed = of_answer (IsReached P) (λ a v e. leaves-reached P b a v formed e)

  pub is_well_formed : IsProblem P → IsBudget b → IfOk r (λ x. IsWellFormedAnswer P.params (answer_of x.0))
  is_well_formed formed budget = of_answer (IsWellFormedAnswer P.params) (λ a v e. solve-well_formed_answer P b a v formed budget.nesting e)

  of_certificate : (Q : tree.Answer → Certificate → Type 0) → ((a : tree.Answer) (c : Certificate) (w : Work) → solve_with_certificate b P ≡ Done (a, Some c) w → Q a c)
      → IfOk r (λ x. IfOk x.1 (Q (answer_of x.0)))
  of_certificate Q holds = by r (told (λ m. OfCertificate (Q m.0) m.1) at)
    where
      at : (a : tree.Answer) (c : Option Certificate) (w : Work) → solve_with_certificate b P ≡ Done (a, c) w → OfCertificate (Q a) c
      at a None w e = tt
      at a (Some c) w e = holds a c w e

      by : (r : Result Given code.Refusal) → IfOk r (λ x. OfCertificate (Q (answer_of x.0)) (certificate_in x.1)) → IfOk r (λ x. IfOk x.1 (Q (answer_of x.0)))
      by (Ok x) h = of_given (Q (answer_of x.0)) x.1 h
      by (Err e) h = tt

  pub is_certificate : IsProblem P → P.integer ≡ true → IsBudget b → IfOk r (λ x. IfOk x.1 (IsCertificateOf P (answer_of x.0)))
  is_certificate formed integer budget =
      of_certificate (IsCertificateOf P)
      (λ a c w e. record { accepted = certificate-not_rejected P b a c w formed integer e; fits = certificate-fits P b a c w formed integer budget e })
