-- The walk of a tree under its certificate.
use Rattle.std.specs.Prelude.{ℕ, ◌+◌, ◌^◌, ◌<◌, ◌≤◌, IsTrue, List, [], length, drop, Option, Some, None}
use Rattle.std.specs.List.{list_all}
use Rattle.pip_model.specs.Tree.{Tree, Bottom, Leaf, Component, leaves, nesting, is_scoped}
use Rattle.pip_model.specs.Printed.{tree_fits, leaf_fits}
use Rattle.pip_model.specs.Check.{Checks, leaf_cases, check_leaves}
use Rattle.certificate_check.specs.declared.walk.TreeCheck.{TreeCheck}
use Rattle.certificate_check.specs.Paths.{PathForms}

-- the check of the leaves below the node at the path's end, of which the first has number l + 1
abbrev pub below : TreeCheck → ℕ → PathForms → Tree → Checks (Unit {0})
below w l path t =
    check_leaves w.problem.now w.shares (l + 1) (leaf_cases path.scope path.forms [] t) (drop l w.proofs.now)

-- a list, or a bottom
abbrev pub leaf_tree : Option (List Component) → Tree
leaf_tree None = Bottom
leaf_tree (Some cs) = Leaf cs

-- the node's tree is over so many places; there are proofs for its leaves, those from place l on
pub record IsAt (w : TreeCheck) (l scope : ℕ) (t : Tree) : Type 0 where
  pub some : 1 ≤ w.problem.now.unknowns
  pub params : w.problem.now.params ≤ scope
  pub scoped : IsTrue (is_scoped scope t)
  pub fits : IsTrue (tree_fits t)
  pub room : scope + nesting t < 2 ^ 64
  pub proofs : l + leaves t ≤ length w.proofs.now
  pub format : IsTrue (list_all (leaf_fits w.shares) w.proofs.now)
