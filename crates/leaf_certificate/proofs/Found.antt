-- What is read of a certificate's text, by what the definitions read.
use Rattle.leaf_certificate.proofs.Words.{◌≡◌, refl, ℕ, Bool, true, Ok, Err, Result, ◌↔◌, IsTrue, Option, Some, None, IfOk, IfSome, Fault, Certificate}
use Rattle.pip_model.specs.Agreement.{Agrees}
use Rattle.leaf_certificate.specs.declared.refusal.CertificateRefusal.{CertificateRefusal}
use Rattle.leaf_certificate.specs.Faults.{certificate_fault}

pub found_none : (r : Result (Option (Certificate × ℕ)) CertificateRefusal) (model : Result (Option (Certificate × ℕ)) Fault) (closed : Bool) → ((model ≡ Ok None) ↔ (closed ≡ true)) → Agrees (λ o. o) certificate_fault r model → IfOk r (λ o. (o ≡ None) ↔ IsTrue closed)
found_none (Ok None) model closed law e = (λ same. law.0 e, λ h. refl)
found_none (Ok (Some x)) model closed law e = (λ same. cc, λ h. let none = law.1 h in cc)
found_none (Err f) model closed law e = tt

pub found_certificate : (r : Result (Option (Certificate × ℕ)) CertificateRefusal) (model : Result (Option (Certificate × ℕ)) Fault) (P : Certificate × ℕ → Type 0) (Q : Certificate → Type 0) → ((x : Certificate × ℕ) → P x → Q x.0) → IfOk model (λ o. IfSome o P) → Agrees (λ o. o) certificate_fault r model → IfOk r (λ o. IfSome o (λ x. Q x.0))
found_certificate (Ok (Some x)) model P Q each law e = each x (rw e at law)
found_certificate _ model P Q each law e = tt
