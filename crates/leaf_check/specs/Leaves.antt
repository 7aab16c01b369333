-- The leaf that is checked.
use Rattle.std.specs.Prelude.{◌≡◌, ℕ, ◌+◌, ◌≤◌, ℤ, Bool, ◌&&◌, ◌==◌, ⊤, List, [], length, Option, Some, None, All, MatchOption, option_copied}
use Rattle.pip_model.specs.Problem.{Problem}
use Rattle.pip_model.specs.Tree.{Component}
use Rattle.pip_model.specs.Certificate.{LeafProofs}
use Rattle.pip_model.specs.Check.{LeafCase, Premises, leaf_premises, is_whole_list}
use Rattle.leaf_check.specs.declared.leaf.Leaf.{Leaf}

-- the numbers of its path fit
abbrev pub case_of : Leaf → LeafCase
case_of l = record { scope = l.scope; path = l.path.now; listed = []; list = option_copied l.list }

-- what each of its refutations starts from beside the leaf's forms
abbrev pub own_premises : Leaf → List Premises
own_premises l = leaf_premises l.problem.now (case_of l) (option_copied l.list)

abbrev pub AreWide : ℕ → List Component → Type 0
AreWide w cs = All (λ (c : Component). length c.form ≡ w + 1) cs

-- the widths of a leaf: its path's forms are within its scope, its components over it
pub record IsLeaf (P : Problem) (L : LeafCase) : Type 0 where
  pub scope : P.params ≤ L.scope
  pub path : All (λ (c : List ℤ). length c ≤ L.scope + 1) L.path
  pub list : MatchOption L.list ⊤ (AreWide L.scope)

-- nothing known and nothing listed
abbrev pub nothing : Premises
nothing = record { known = []; listed = [] }

-- how many refutations a leaf has
abbrev pub goal_count : Problem → Option (List Component) → ℕ
goal_count P None = 1
goal_count P (Some cs) = length P.rows + length cs + length cs

-- a list is whole, and there are as many refutations as there are to be
abbrev pub has_shape : Problem → Option (List Component) → LeafProofs → Bool
has_shape P list p = is_whole_list P.unknowns list && (length p.refutations == goal_count P list)
