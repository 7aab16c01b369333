-- What a tree in memory stands for.
use Rattle.std.specs.Prelude.{ℕ, IsTrue, refl}
use Rattle.std.specs.Coded.{Coded, code_by, coded×, coded_ℕ}
use Rattle.pip_model.specs.Tree.{Tree, Bottom, Leaf, If, NewParm, IsWellFormed}
use Rattle.pip_model.specs.TreeCode.{tree_code}
use Rattle.pip_model.specs.Printed.{tree_fits}
use Rattle.quast.specs.declared.node.Node.{Node}
use Rattle.quast.specs.declared.node.Node.TheVariants as node

-- the tree of a node
abbrev pub tree_of : Node → Tree
tree_of node.Bottom = Bottom
tree_of (node.Leaf cs) = Leaf cs
tree_of (node.Select' v p a q b) = If v (tree_of a) (tree_of b)
tree_of (node.Define' v d p a) = NewParm v d (tree_of a)

-- a tree over this number of parameters
pub record ScopedTree : Type 0 where
  pub width : ℕ
  pub tree : Tree

-- what holds of each tree that is built: it is well formed over its parameters, and its numbers fit
pub record IsQuast (q : ScopedTree) : Type 0 where
  pub well_formed : IsWellFormed q.width q.tree
  pub fits : IsTrue (tree_fits q.tree)

abbrev pub scoped_code : Coded ScopedTree
scoped_code =
    code_by (ℕ × Tree) (coded× coded_ℕ tree_code) (λ q. (q.width, q.tree)) (λ p. record { width = p.0; tree = p.1 })
    (λ _. refl)
