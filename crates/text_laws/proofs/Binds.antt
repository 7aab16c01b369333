-- The laws of a do-block: what each step yields, the next may use.
use Rattle.text_laws.proofs.Words.{◌≡◌, refl, Bool, true, false, Result, Ok, Err, IfOk, ◌>>=◌, if◌then◌else◌}

-- the first step yields a value of P, and from each such value the rest yields one of Q
pub then-ok : {A B E : Type 0} (r : Result A E) (f : A → Result B E) (P : A → Type 0) (Q : B → Type 0) → IfOk r P → ((x : A) → P x → IfOk (f x) Q) → IfOk (r >>= f) Q
then-ok (Ok x) f P Q h each = each x h
then-ok (Err e) f P Q h each = tt

-- what is returned only where a test passes
pub if-ok : {A E : Type 0} (b : Bool) (x : A) (e : E) (P : A → Type 0) → (b ≡ true → P x) → IfOk (if b then Ok x else Err e) P
if-ok true x e P h = h refl
if-ok false x e P h = tt
