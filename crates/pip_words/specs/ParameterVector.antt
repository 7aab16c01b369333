-- The values of parameters.
use Rattle.std.specs.Prelude.{◌≤◌, ℤ, List, length, IsTrue}
use Rattle.std.specs.List.{list_all}
use Rattle.pip_model.specs.Limits.{most_params}
use Rattle.pip_model.specs.Listed.{all_fit}
use Rattle.pip_model.specs.Numbers.{is_nonneg}

-- no more numbers than there may be parameters; each fits and is >= 0
pub record IsParameterVector (entries : List ℤ) : Type 0 where
  pub few : length entries ≤ most_params
  pub fitting : IsTrue (all_fit entries)
  pub nonnegative : IsTrue (list_all is_nonneg entries)
