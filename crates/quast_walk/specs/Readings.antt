-- How a tree is read: its forms have zeros at the places that another tree's new parameters took.
use Rattle.std.specs.Prelude.{◌≡◌, ℕ, ◌+◌, ◌*◌, ◌^◌, ◌<◌, ◌≤◌, IsTrue}
use Rattle.pip_model.specs.Forms.{width}
use Rattle.pip_model.specs.Printed.{tree_fits}
use Rattle.pip_model.specs.Tree as model
use Rattle.pip_model.specs.Tree.{Tree, Component, is_scoped, nesting}
use Rattle.pip_model.specs.Tools.{spread, spread_tree}
use Rattle.quast.specs.Components.{IsComponent}
use Rattle.sign_split.specs.Scoped.{ScopedForms}
use Rattle.quast.specs.declared.answer.Answer.{Answer}
use Rattle.quast.specs.declared.answer.Answer.TheVariants as answer
use Rattle.quast_walk.specs.declared.reading.TreeLeaf.{TreeLeaf}
use Rattle.quast_walk.specs.declared.reading.TreeLeaf.TheVariants as leaf

-- ---- leaves

-- a leaf as an answer; as a tree, in which void counts as bottom
abbrev pub leaf_answer : TreeLeaf → model.Answer
leaf_answer leaf.Void = model.Void
leaf_answer leaf.Bottom = model.Solved model.Bottom
leaf_answer (leaf.List cs) = model.Solved (model.Leaf cs.now)

abbrev pub leaf_tree : TreeLeaf → Tree
leaf_tree leaf.Void = model.Bottom
leaf_tree leaf.Bottom = model.Bottom
leaf_tree (leaf.List cs) = model.Leaf cs.now

-- ---- answers

-- no more than this many nodes that choose or define are on a path
abbrev pub answer_nesting : Answer → ℕ
answer_nesting answer.Void = 0
answer_nesting (answer.Tree q) = nesting q.tree

-- an answer with n zeros behind the first m coefficients of its forms
abbrev pub spread_answer : ℕ → ℕ → model.Answer → model.Answer
spread_answer m n model.Void = model.Void
spread_answer m n (model.Solved t) = model.Solved (spread_tree m n t)

-- ---- where a walk stands

-- a tree over m parameters and n places behind them, read at w places
pub record IsTreeAt (m n w : ℕ) (t : Tree) : Type 0 where
  pub few : m + n ≤ w
  pub scoped : IsTrue (is_scoped w (spread_tree m n t))
  pub numbers : IsTrue (tree_fits t)

-- a leaf of such a tree
pub record IsLeafAt (m n w : ℕ) (l : TreeLeaf) : Type 0 where
  pub kind : leaf_answer l ≡ model.Solved (leaf_tree l)
  pub tree : IsTreeAt m n w (leaf_tree l)

-- the context has room for the bounds of so many nested nodes and for what a leaf needs, and no depth is too great
pub record HasRoom (leaf depth nested : ℕ) (k : ScopedForms) : Type 0 where
  pub spare : 2 * nested + leaf ≤ k.spare
  pub shallow : depth + nested + leaf < 2 ^ 63

-- the two trees of a node that chooses, each to be walked one level down
pub record AreBranches (m n leaf depth : ℕ) (k : ScopedForms) (a b : Tree) : Type 0 where
  pub first : IsTreeAt m n k.width a
  pub second : IsTreeAt m n k.width b
  pub first_room : HasRoom (leaf + 1) depth (nesting a) k
  pub second_room : HasRoom (leaf + 1) depth (nesting b) k

-- ---- components in memory

-- it is made in lowest terms
abbrev pub spread_reduced : ℕ → ℕ → Component → Component
spread_reduced m n c = model.reduced c.den (spread m n c.form)

-- a component over as many places as its form
abbrev pub IsOwnComponent : Component → Type 0
IsOwnComponent c = IsComponent (width c.form) c
