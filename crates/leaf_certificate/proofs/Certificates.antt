-- A certificate is read part by part.
use Rattle.leaf_certificate.proofs.Words.{◌≡◌, refl, ℕ, ℤ, Bool, List, Ok, Err, codes, Option, IfSome, LeftParen, Fault, expect, expect_word, Certificate, version, vector, certificate_at, leaves_to_end}
use Rattle.text_reading.proofs.Binds.{refused_by}

module _ (bytes : List ℕ) (place first word behind : ℕ) (shares : Bool) (opened : expect bytes LeftParen place ≡ Ok first) (named : expect_word bytes (codes "certificate") first ≡ Ok word) (formed : version bytes word ≡ Ok (shares, behind)) where
  pub vector_refused : (fault : Option Fault) → IfSome fault (λ f. vector bytes behind ≡ Err f) → IfSome fault (λ f. certificate_at bytes place ≡ Err f)
  vector_refused fault h = refused_by fault (vector bytes behind) (certificate_at bytes place) (λ f e. rw (opened, named, formed, e) refl) h

  pub certificate_made : (v : Option (List ℤ)) (at after : ℕ) (c : Certificate) → vector bytes behind ≡ Ok (v, at) → leaves_to_end bytes shares at ≡ Ok (c.leaves, after) → c.shares ≡ shares → c.vector ≡ v → certificate_at bytes place ≡ Ok (c, after)
  certificate_made v at after c e f p q = rw (opened, named, formed, e, f, ← p, ← q) refl
