-- The forms of a leaf's refutations as they are turned from one to the next.
use Rattle.std.specs.Prelude.{◌≡◌, ℕ, zero, suc, ℤ, List, [], ◌++◌, length, take, drop, slice_index_or, Result, OnOk}
use Rattle.leaf_check.specs.Goals.{without_last}
use Rattle.leaf_check.specs.Known.{KnownForms}
use Rattle.leaf_check.specs.Leaves.{own_premises, nothing}
use Rattle.leaf_check.specs.declared.leaf.Leaf.{Leaf}

-- the own forms of refutation r, from 0
abbrev pub own_forms : Leaf → ℕ → List (List ℤ)
own_forms l r = (slice_index_or (own_premises l) r nothing).known

-- those of the refutation before; none before the first
abbrev pub own_before : Leaf → ℕ → List (List ℤ)
own_before l zero = []
own_before l (suc r) = own_forms l r

-- what stays for refutation r of these forms and, behind them, the own ones of the refutation before: all but the last
abbrev pub staying : Leaf → ℕ → List (List ℤ) → List (List ℤ)
staying l zero front = front
staying l (suc r) front = without_last (front ++ own_forms l r)

-- behind what stays these forms make the own ones of refutation r
abbrev pub AreMore : Leaf → ℕ → List (List ℤ) → Type 0
AreMore l r more = (front : List (List ℤ)) → staying l r front ++ more ≡ front ++ own_forms l r

-- these are put behind the others
pub record IsPushedTo {X E : Type 0} (result : Result X E) (l : Leaf) (r : ℕ) (old new : KnownForms) : Type 0 where
  pub ok : OnOk result (AreMore l r (drop (length old.forms) new.forms))
  pub stay : take (length old.forms) new.forms ≡ old.forms
  pub width : new.width ≡ old.width

-- the own forms of the refutation before r, behind these, which are the leaf's and those of its shared steps
pub record AreBehind (front : List (List ℤ)) (l : Leaf) (r : ℕ) (known : KnownForms) : Type 0 where
  pub forms : known.forms ≡ front ++ own_before l r
