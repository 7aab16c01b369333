-- The known forms of a refutation.
use Rattle.std.specs.Prelude.{◌≡◌, ◌≤◌, ◌+◌, ℕ, ℤ, Bool, List, ◌++◌, length, take, All, Result, Ok, OnOk}
use Rattle.derivation_steps.specs.Sums.{PartSum}
use Rattle.pip_model.specs.Reading.{◌>>=◌}
use Rattle.pip_model.specs.Certificate.{Step}
use Rattle.pip_model.specs.Check.{Checks, after_steps, ends_absurd}

-- forms over this number of places
pub record KnownForms : Type 0 where
  pub width : ℕ
  pub forms : List (List ℤ)

-- forms put behind the others: all of them where the call succeeds, and what was there stays
pub record ArePushed {X E : Type 0} (result : Result X E) (forms : List (List ℤ)) (old new : KnownForms) : Type 0 where
  pub ok : OnOk result (new ≡ record old { forms = old.forms ++ forms })
  pub front : take (length old.forms) new.forms ≡ old.forms
  pub width : new.width ≡ old.width

-- forms over the first of so many places, and a sum over all
pub record AreOver (w : ℕ) (forms : List (List ℤ)) (sum : PartSum) : Type 0 where
  pub within : All (λ (c : List ℤ). length c ≤ w + 1) forms
  pub over : sum.width ≡ w

-- whether the last known form is below 0 everywhere once the steps of a refutation are taken
abbrev pub absurd_by : ℕ → ℕ → ℕ → List (List ℤ) → List Step → Checks Bool
absurd_by l r w known steps = do
  forms ← after_steps l r 0 w known steps
  Ok (ends_absurd forms)
