-- What a turn makes of a node.
use Rattle.std.specs.Prelude.{◌≡◌, ℕ, ℤ, ◌+◌, ◌<◌, ◌≤◌, List, [], ◌∷◌, ◌++◌, map, length, None}
use Rattle.pip_model.specs.Forms.{opposite}
use Rattle.pip_model.specs.Rows.{row_at, widened}
use Rattle.pip_model.specs.Cuts.{Quotient, residue_of, find_from, lower_bound, upper_bound, parametric_cut}
use Rattle.pip_model.specs.Tree.{Tree, If, NewParm, nesting}
use Rattle.pip_model.specs.Run as run
use Rattle.pip_model.specs.Run.{Node, Setting, Counted, ◌>>=◌, ◌>>◌, give, count_split, check_nesting, run_from}
use Rattle.tableau.specs.Tableaus.{TableauRows, IsRow}
use Rattle.new_parameters.specs.Scopes.{Scope, IsQuotient, size}
use Rattle.quast.specs.Trees.{ScopedTree}
use Rattle.node_turn.specs.Nodes.{node_of}
use Rattle.node_turn.specs.Signs.{IsCondition}
use Rattle.node_turn.specs.declared.path.Path.{Path}
use Rattle.node_turn.specs.declared.turn.Turn.{Turn}
use Rattle.node_turn.specs.declared.turn.Turn.TheVariants as code

-- the tree of a quast
abbrev pub tree_in : ScopedTree → Tree
tree_in q = q.tree

-- the node with one more form in its context, one level down
abbrev pub under : Node → List ℤ → Node
under N c = record N { context = N.context ++ c ∷ []; depth = N.depth + 1 }

-- the node below the new parameter k at place q, which cuts row i
abbrev pub below : Node → ℕ → ℕ → Quotient → Node
below N i q k = record {
  rows = map widened N.rows ++ parametric_cut (widened (row_at N.rows i)) q ∷ [];
  context = N.context ++ lower_bound (q + 1) q k ∷ upper_bound (q + 1) q k ∷ [];
  quotients = N.quotients ++ k ∷ [];
  depth = N.depth + 1;
}

-- the turn of a node of a path, whose rows are these after it
abbrev pub turn_of : TableauRows → Path → Turn → run.Turn
turn_of t path (code.Closed tree) = run.Closed tree.tree
turn_of t path code.Again = run.Again (node_of t path)
turn_of t path (code.Split c) = run.Split c (under (node_of t path) c) (under (node_of t path) (opposite c))
turn_of t path (code.Below i k) = run.Below k (below (node_of t path) i (size path.quotients) k)

-- a split is counted, and then the nesting is raised
abbrev pub counted_split : ℕ → Counted (Unit {0})
counted_split nesting = do
  count_split
  check_nesting nesting

-- the tree of a turn: a leaf, or what the run makes of the nodes that it leaves
abbrev pub after : Setting → run.Turn → Counted Tree
after S (run.Closed t) = give t
after S (run.Again N) = run_from S N
after S (run.Below k N) = do
  a ← run_from S N
  give (NewParm k.form k.den a)
after S (run.Split c N M) = do
  a ← run_from S N
  b ← run_from S M
  give (If c a b)

-- a quotient over all places of the scope, and none of its quotients
pub record IsNewQuotient (q : Scope) (k : Quotient) : Type 0 where
  pub absent : find_from q.params q.quotients k ≡ None
  pub quotient : IsQuotient (size q) k
  pub wide : length k.form ≡ size q + 1

-- k is the residue of row i over its denominator, and none of the path's quotients
pub record IsNewParameter (t : TableauRows) (q : Scope) (i : ℕ) (k : Quotient) : Type 0 where
  pub within : i < length t.rows
  pub row : IsRow t.unknowns t.width (row_at t.rows i)
  pub residue : k ≡ residue_of (row_at t.rows i)
  pub quotient : IsQuotient t.width k
  pub wide : length k.form ≡ t.width + 1
  pub absent : find_from q.params q.quotients k ≡ None

-- what a turn promises of the node that it leaves to be made: that a tree is over the node's scope and has no if
-- and no newparm, that the rows stay, that a condition and a quotient are of the scope and one level down is within
-- the nesting
abbrev pub TurnIs : TableauRows → TableauRows → Path → ℕ → Turn → Type 0
TurnIs t now path most (code.Closed tree) = (tree.width ≡ t.width) × (nesting tree.tree ≡ 0)
TurnIs t now path most code.Again = (now.unknowns ≡ t.unknowns) × (now.width ≡ t.width) × (t.unknowns ≤ length now.rows)
TurnIs t now path most (code.Split c) = (now ≡ t) × (path.depth + 1 ≤ most) × IsCondition t.width c
TurnIs t now path most (code.Below i k) = (now ≡ t) × (path.depth + 1 ≤ most) × IsNewParameter t path.quotients i k
