-- The run that a refuter keeps from one refutation to the next.
use Rattle.std.specs.Prelude.{◌≡◌, ◌≤◌, ℕ, ℤ, Bool, false, IsTrue, List, length, map, take}
use Rattle.pip_model.specs.Contexts.{IsContext}
use Rattle.pip_model.specs.Made.{narrow_to}
use Rattle.kept_run.specs.declared.remembered.Remembered.{Remembered}
use Rattle.kept_run.specs.Remembered.{IsRemembered}

-- the run of so many forms over their first `width` places, where it is known
pub record KeptRun : Type 0 where
  pub width : ℕ
  pub count : ℕ
  pub is_known : Bool
  pub run : Remembered

-- it is the run of these forms
pub record IsRunOf (K : List (List ℤ)) (k : KeptRun) : Type 0 where
  pub context : IsContext k.width K
  pub remembered : IsTrue k.is_known → IsRemembered k.width K k.run

-- no forms are kept
pub record KeepsNone (k : KeptRun) : Type 0 where
  pub count : k.count ≡ 0
  pub unknown : k.is_known ≡ false

-- the kept forms are the first of these
pub record AreFirst (k : KeptRun) (known : List (List ℤ)) : Type 0 where
  pub few : k.count ≤ length known
  pub run : IsRunOf (map (narrow_to k.width) (take k.count known)) k

-- so are they where they are no more than this number
abbrev pub AreFirstWithin : KeptRun → List (List ℤ) → ℕ → Type 0
AreFirstWithin k known n = k.count ≤ n → AreFirst k known

-- the kept forms are the first of these, over n places
pub record AreFirstOver (n : ℕ) (k : KeptRun) (known : List (List ℤ)) : Type 0 where
  pub width : k.width ≡ n
  pub first : AreFirst k known
