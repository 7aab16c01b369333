-- Counts of faults, one call after the other.
use Rattle.std.proofs.Common.{◌≡◌, ap, subst, ◌∙◌, ℕ, arith}
use Rattle.std.specs.Prelude.{Err, IsErrOf}
use Rattle.pip_outside.specs.Faults.{HasRisen, CountsFaults}

-- nothing failed, and nothing is counted
pub counts-none : {Fails : Type 0} (a b : ℕ) → ¬ Fails → b ≡ a → CountsFaults Fails a b
counts-none a b never e = record { later = omega (arith, e); cause = λ h. absurd (never h); quiet = λ _. e }

-- a call behind others that counted nothing, where both fail alike
pub counts-as : {F G : Type 0} (a b c : ℕ) → b ≡ a → (G → F) → (F → G) → CountsFaults F b c → CountsFaults G a c
counts-as a b c e to from h = record {
  later = omega (arith, e, h.later);
  cause = λ g. subst (λ k. HasRisen k c) e (h.cause (to g));
  quiet = λ never. h.quiet (λ f. never (from f)) ∙ e;
}

pub counts-after : {F : Type 0} (a b c : ℕ) → b ≡ a → CountsFaults F b c → CountsFaults F a c
counts-after a b c e h = counts-as a b c e (λ f. f) (λ f. f) h

-- one refusal is another value's
refused-as : {A B E : Type 0} (x f : E) → IsErrOf {T = A} (Err x) f → IsErrOf {T = B} (Err x) f
refused-as x f e = let same : x ≡ f = cc in ap (λ y. Err y) same

-- the refusal is handed on
pub counts-refused : {A B E : Type 0} (x f : E) (a b c : ℕ) → b ≡ a → CountsFaults (IsErrOf {T = A} (Err x) f) b c → CountsFaults (IsErrOf {T = B} (Err x) f) a c
counts-refused x f a b c e h = counts-as a b c e (refused-as x f) (refused-as x f) h
