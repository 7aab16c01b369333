-- The run that a context keeps.
use Rattle.std.specs.Prelude.{◌≡◌, ℕ, ◌≤◌, ℤ, Bool, IsTrue, List, length, take}
use Rattle.pip_model.specs.Contexts.{IsContext}
use Rattle.kept_run.specs.declared.remembered.Remembered.{Remembered}
use Rattle.kept_run.specs.Remembered.{IsRemembered}

-- narrow forms, and the run of the first so many of them where one is known
pub record IsKnown (n : ℕ) (K : List (List ℤ)) (is_known : Bool) (known : ℕ) (run : Remembered) : Type 0 where
  pub context : IsContext n K
  pub within : IsTrue is_known → known ≤ length K
  pub remembered : IsTrue is_known → IsRemembered n (take known K) run

-- where it was tried to make the run of all forms, so many were tried
abbrev pub IsTried : Bool → ℕ → List (List ℤ) → Type 0
IsTried tried known K = IsTrue tried → known ≡ length K
