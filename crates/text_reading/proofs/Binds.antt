-- Readers in a row.
use Rattle.std.proofs.Common.{◌≡◌, refl}
use Rattle.std.specs.Prelude.{Option, Some, None, IfSome, Result, Ok, Err}
use Rattle.pip_model.specs.Reading.{Fault, ◌>>=◌}

-- what follows a chain follows its last step
pub bind_assoc : {A B C E : Type 0} (r : Result A E) (f : A → Result B E) (g : B → Result C E) → ((r >>= f) >>= g) ≡ (r >>= λ x. f x >>= g)
bind_assoc (Ok x) f g = refl
bind_assoc (Err e) f g = refl

-- the whole has the fault of a part, if the part has one
pub refused_by : {A B : Type 0} (fault : Option Fault) (part : Result A Fault) (whole : Result B Fault) → ((f : Fault) → part ≡ Err f → whole ≡ Err f)
    → IfSome fault (λ f. part ≡ Err f) → IfSome fault (λ f. whole ≡ Err f)
refused_by None part whole so h = tt
refused_by (Some f) part whole so h = so f h
