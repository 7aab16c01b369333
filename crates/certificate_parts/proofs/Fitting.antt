-- Numbers that fit.
use Rattle.std.proofs.Common.{refl, IsTrue, ℤ, List, [], ◌∷◌}
use Rattle.std.proofs.lemmas.List.Elements.{All-head, All-tail, All-cons, All-nil}
use Rattle.std.specs.Prelude.{All, IfSome, Option, Some, None}
use Rattle.pip_model.specs.Listed.{all_fit}
use Rattle.pip_model.specs.Printed.{vector_fits}
use Rattle.pip_model.proofs.Fitting.{fit_head, fit_cons}
use Rattle.affine_forms.specs.Checks.{Fits}

all_fit_from : (v : List ℤ) → All Fits v → IsTrue (all_fit v)
all_fit_from [] h = refl
all_fit_from (x ∷ xs) h = fit_cons x xs (All-head Fits x xs h) (all_fit_from xs (All-tail Fits x xs h))

all_from_fit : (v : List ℤ) → IsTrue (all_fit v) → All Fits v
all_from_fit [] h = All-nil Fits
all_from_fit (x ∷ xs) h = let p = fit_head x xs h in All-cons Fits x xs p.0 (all_from_fit xs p.1)

pub vector_fits_from : (v : Option (List ℤ)) → IfSome v (All Fits) → IsTrue (vector_fits v)
vector_fits_from None h = refl
vector_fits_from (Some v) h = all_fit_from v h

pub all_from_vector : (v : Option (List ℤ)) → IsTrue (vector_fits v) → IfSome v (All Fits)
all_from_vector None h = tt
all_from_vector (Some v) h = all_from_fit v h
