-- What is read of an answer's text, by what the definitions read.
use Rattle.quast_text.proofs.Words.{◌≡◌, refl, ℕ, Bool, true, Ok, Err, Result, ◌↔◌, IsTrue, Option, Some, None, IfOk, IfSome, Fault, text_fault}
use Rattle.pip_model.specs.TreeText as text
use Rattle.pip_model.specs.Agreement.{Agrees}
use Rattle.quast_text.specs.declared.read.Spoken.{Spoken}
use Rattle.quast_text.specs.declared.refusal.TextRefusal.{TextRefusal}
use Rattle.quast_text.specs.Spoken.{spoken_of, found_of}

pub found_none : (r : Result (Option (Spoken × ℕ)) TextRefusal) (model : Result (Option (text.Commented × ℕ)) Fault) (closed : Bool) → ((model ≡ Ok None) ↔ (closed ≡ true)) → Agrees found_of text_fault r model → IfOk r (λ o. (o ≡ None) ↔ IsTrue closed)
found_none (Ok None) model closed law e = (λ same. law.0 e, λ h. refl)
found_none (Ok (Some x)) model closed law e = (λ same. cc, λ h. let none = law.1 h in cc)
found_none (Err f) model closed law e = tt

pub found_spoken : (r : Result (Option (Spoken × ℕ)) TextRefusal) (model : Result (Option (text.Commented × ℕ)) Fault) (P : text.Commented × ℕ → Type 0) (Q : text.Commented → Type 0) → ((x : text.Commented × ℕ) → P x → Q x.0) → IfOk model (λ o. IfSome o P) → Agrees found_of text_fault r model → IfOk r (λ o. IfSome o (λ x. Q (spoken_of x.0)))
found_spoken (Ok (Some x)) model P Q each law e = each (spoken_of x.0, x.1) (rw e at law)
found_spoken _ model P Q each law e = tt
