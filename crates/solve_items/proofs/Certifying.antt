-- From an answer with its certificate to their text, or the end.
use Rattle.solve_items.proofs.Words.{◌≡◌, ◌∙◌, refl, ap, ◌++◌, List, ℕ, Bool, true, false, Option, Some, None, option_map, Result, Ok, Err, IfSome, if◌then◌else◌, Certificate, spell_certificate, certified_answer_text, certified_outcome, certified_text, Problem, ◌>>◌, Answer, spell}
use Rattle.program_model.specs.Endings as model
use Rattle.pip_model.specs.Made.{solve_with_certificate}
use Rattle.pip_model.specs.Run.{Budget, Outcome, Done, Refused, Refusal, Overflow, answered}
use Rattle.affine_forms.specs.declared.numbers.Overflow.{Overflow as Unfit}
use Rattle.quast.specs.declared.answer.Answer as code
use Rattle.quast.specs.Answers.{answer_of}
use Rattle.solve_certified.specs.Certified.{certificate_in, certified_of}

abbrev Given : Type 0
Given = code.Answer × Result Certificate Unfit

-- what the run gives, with a certificate or with none
given : (P : Problem) (o : Outcome (Answer × Option Certificate)) (x : Answer × Option Certificate) → answered o ≡ Ok x
    → certified_outcome P o ≡ certified_answer_text P x.0 x.1
given P (Done y w) x h = let same : y ≡ x = cc in ap (λ (z : Answer × Option Certificate). certified_answer_text P z.0 z.1) same
given P (Refused e w) x h = cc

refused : (P : Problem) (o : Outcome (Answer × Option Certificate)) (e : Refusal) → answered o ≡ Err e
    → certified_outcome P o ≡ Err (model.refusal_ending e)
refused P (Done y w) e h = cc
refused P (Refused f w) e h = let same : f ≡ e = cc in ap (λ (x : Refusal). Err (model.refusal_ending x)) same

-- an integer problem may have a certificate
passed : (integer : Bool) (rest : Result (List ℕ) model.Ending) → integer ≡ true
    → ((if integer then Ok tt else Err model.rational_certificate) >> rest) ≡ rest
passed true rest h = refl
passed false rest h = cc

module _ (b : Budget) (P : Problem) (whole : P.integer ≡ true) (r : Given) (told : answered (solve_with_certificate b P) ≡ Ok (certified_of r)) where
  abbrev with_certificate : Result Certificate Unfit → Result (List ℕ) model.Ending
  with_certificate x = certified_answer_text P (answer_of r.0) (certificate_in x)

  pub certified_ok : (c : Certificate) → r.1 ≡ Ok c → certified_text b P ≡ Ok (spell P.comment (answer_of r.0) ++ spell_certificate c)
  certified_ok c is =
      passed P.integer (certified_outcome P (solve_with_certificate b P)) whole
      ∙ given P (solve_with_certificate b P) (certified_of r) told ∙ ap with_certificate is

  -- a number of the certificate does not fit
  pub certified_none : (e : Unfit) → r.1 ≡ Err e → certified_text b P ≡ Err (model.refusal_ending Overflow)
  certified_none e is =
      passed P.integer (certified_outcome P (solve_with_certificate b P)) whole
      ∙ given P (solve_with_certificate b P) (certified_of r) told ∙ ap with_certificate is

-- where the run is refused, so is the text
pub certified_refused : (b : Budget) (P : Problem) (o : Option Refusal) → P.integer ≡ true
    → IfSome o (λ e. answered (solve_with_certificate b P) ≡ Err e)
    → IfSome (option_map model.refusal_ending o) (λ f. certified_text b P ≡ Err f)
certified_refused b P None whole h = tt
certified_refused b P (Some e) whole h =
    passed P.integer (certified_outcome P (solve_with_certificate b P)) whole ∙ refused P (solve_with_certificate b P) e h
