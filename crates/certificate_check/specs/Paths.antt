-- The path to a node of a tree, and the leaves below the node.
use Rattle.std.specs.Prelude.{ℕ, ℤ, Bool, List, [], Option, Some, None, if◌then◌else◌}
use Rattle.pip_model.specs.Problem.{Problem}
use Rattle.pip_model.specs.Tree.{Tree, Bottom, Leaf, If, NewParm, Component}
use Rattle.pip_model.specs.Certificate.{LeafProofs}
use Rattle.pip_model.specs.Check.{CheckFault, Rejected, Unfit, spot}
use Rattle.leaf_check.specs.Leaves.{has_shape}

-- the number of parameters and quotients in scope at the path's end, and its forms
pub record PathForms : Type 0 where
  pub scope : ℕ
  pub forms : List (List ℤ)

-- the components of the first leaf, none of a bottom
abbrev pub first_list : Tree → Option (List Component)
first_list Bottom = None
first_list (Leaf cs) = Some cs
first_list (If v a b) = first_list a
first_list (NewParm v d a) = first_list a

-- the fault of leaf l where a number of its path does not fit
abbrev pub path_fault : Problem → Bool → ℕ → Option (List Component) → LeafProofs → CheckFault
path_fault P shares l list p =
    if has_shape P list p then Unfit (spot l (if shares then 0 else 1) 0) else Rejected (spot l 0 0)

-- no steps and no refutations
abbrev pub no_proofs : LeafProofs
no_proofs = record { shared = []; refutations = [] }
