-- The run of a node whose tree frames wait for.
use Rattle.std.specs.Prelude.{◌≡◌, ℕ, ℤ, pos, ◌≤ℤ◌, ◌+◌, ◌-◌, ◌*◌, ◌≤◌, List, [], ◌∷◌, ◌++◌, length, take}
use Rattle.pip_model.specs.Forms.{opposite}
use Rattle.pip_model.specs.Contexts.{IsContext}
use Rattle.pip_model.specs.Limits.{most_nesting}
use Rattle.pip_model.specs.Tree.{Tree, If, NewParm, nesting}
use Rattle.pip_model.specs.Run.{Counted, ◌>>=◌, give, run_from}
use Rattle.affine_forms.specs.Checks.{Fits}
use Rattle.tableau.specs.Tableaus.{TableauRows}
use Rattle.quast.specs.Trees.{ScopedTree}
use Rattle.node_turn.specs.ContextMark.{ContextMark}
use Rattle.node_turn.specs.Nodes.{node_of, setting_of, IsNode}
use Rattle.node_turn.specs.Signs.{IsCondition}
use Rattle.node_turn.specs.Turns.{after, turn_of, IsNewParameter}
use Rattle.pip_solve.specs.Waiting.{Waiting}
use Rattle.node_turn.specs.declared.path.Path.{Path}
use Rattle.pip_solve.specs.declared.pending.Frame.{Frame}
use Rattle.pip_solve.specs.declared.pending.Frame.TheVariants as frame
use Rattle.node_turn.specs.declared.turn.Turn.{Turn}
use Rattle.node_turn.specs.declared.turn.Turn.TheVariants as code
use Rattle.pip_solve.specs.declared.closing.Next.{Next}
use Rattle.pip_solve.specs.declared.closing.Next.TheVariants as next

-- the run of the node at the end of a path
abbrev pub node_run : TableauRows → Path → Counted Tree
node_run t path = run_from (setting_of t path) (node_of t path)

-- the path back at marks of its context and its quotients, at a depth
abbrev pub gone_back : Path → ContextMark → ℕ → ℕ → Path
gone_back path mark quotients depth = record path {
  depth = depth;
  context = record path.context {
    width = mark.width;
    forms = take mark.forms path.context.forms;
    spare = path.context.spare + (length path.context.forms - mark.forms);
  };
  quotients = record path.quotients { quotients = take quotients path.quotients.quotients };
}

-- the path one level down, with one more form in its context
abbrev pub path_under : Path → List ℤ → Path
path_under path c = record path {
  depth = path.depth + 1;
  context = record path.context { forms = path.context.forms ++ c ∷ [] };
}

-- what the frames that wait, the last first, make of the tree at the end of a path
abbrev pub finished : Path → List Frame → Tree → Counted Tree
finished path [] t = give t
finished path (frame.SecondDue c rows mark quotients ∷ frames) t = do
  b ← node_run rows (path_under (gone_back path mark quotients (length frames)) (opposite c))
  finished (gone_back path mark quotients (length frames)) frames (If c t b)
finished path (frame.FirstMade c first ∷ frames) t = finished path frames (If c first.tree t)
finished path (frame.NewParm form den ∷ frames) t = finished path frames (NewParm form den t)

-- the tree of the node in hand is made, and then the trees of the frames that wait for it
abbrev pub whole_run : TableauRows → Path → List Frame → Counted Tree
whole_run rows path frames = do
  t ← node_run rows path
  finished path frames t

-- the same after a turn of the node in hand
abbrev pub turned_run : TableauRows → Path → List Frame → Turn → Counted Tree
turned_run rows path frames turn = do
  t ← after (setting_of rows path) (turn_of rows path turn)
  finished path frames t

-- the same where the node of these rows is in hand, or the whole tree
abbrev pub next_run : TableauRows → Path → List Frame → Next → Counted Tree
next_run rows path frames next.Node = whole_run rows path frames
next_run rows path frames (next.Tree t) = give t.tree

-- the context has room for the forms of all levels that may be below
abbrev pub HasRoom : ℕ → Path → Type 0
HasRoom most path = 2 * (most - path.depth) ≤ path.context.spare

-- the same where a node is in hand
abbrev pub HasNextRoom : ℕ → Path → Next → Type 0
HasNextRoom most path next.Node = HasRoom most path
HasNextRoom most path (next.Tree t) = Unit {0}

-- marks that the path can go back to
pub record AreMarks (path : Path) (mark : ContextMark) (count : ℕ) : Type 0 where
  pub forms : mark.forms ≤ length path.context.forms
  pub narrow : IsContext mark.width (take mark.forms path.context.forms)
  pub quotients : count ≤ length path.quotients.quotients

-- the second tree of an if is due, at the node of these rows at the end of a path
pub record IsDue (most : ℕ) (rows : TableauRows) (path : Path) (c : List ℤ) : Type 0 where
  pub node : IsNode rows path
  pub condition : IsCondition rows.width c
  pub nested : path.depth + 1 ≤ most
  pub room : HasRoom most path

-- the frames wait for a tree over w places, with at most so many if and newparm nodes on a path of the whole tree
abbrev pub Waits : ℕ → ℕ → Path → List Frame → Type 0
Waits most w path [] = w ≡ path.quotients.params
Waits most w path (frame.SecondDue c rows mark quotients ∷ frames) =
    AreMarks path mark quotients
    × (rows.width ≡ w)
    × IsDue most rows (gone_back path mark quotients (length frames)) c
    × Waits most w (gone_back path mark quotients (length frames)) frames
Waits most w path (frame.FirstMade c first ∷ frames) =
    (length c ≡ w + 1) × (first.width ≡ w) × (length frames + 1 + nesting first.tree ≤ most) × Waits most w path frames
Waits most w path (frame.NewParm form den ∷ frames) =
    (length form ≡ w) × (pos 1 ≤ℤ den) × Fits den × (1 ≤ w) × Waits most (w - 1) path frames

-- a node is in hand
pub record IsRunning (rows : TableauRows) (path : Path) (pending : Waiting) : Type 0 where
  pub node : IsNode rows path
  pub depth : path.depth ≡ length pending.frames
  pub nested : path.depth ≤ pending.most
  pub few : pending.most ≤ most_nesting
  pub waits : Waits pending.most rows.width path pending.frames

-- a tree is in hand
pub record IsClosing (tree : ScopedTree) (path : Path) (pending : Waiting) : Type 0 where
  pub depth : path.depth ≡ length pending.frames
  pub nested : length pending.frames + nesting tree.tree ≤ pending.most
  pub few : pending.most ≤ most_nesting
  pub waits : Waits pending.most tree.width path pending.frames

-- a turn of the node in hand was taken
abbrev pub IsTurned : TableauRows → Path → Waiting → Turn → Type 0
IsTurned rows path pending (code.Closed tree) = IsClosing tree path pending
IsTurned rows path pending code.Again = IsRunning rows path pending
IsTurned rows path pending (code.Split c) =
    IsRunning rows path pending × (path.depth + 1 ≤ pending.most) × IsCondition rows.width c
IsTurned rows path pending (code.Below i k) =
    IsRunning rows path pending × (path.depth + 1 ≤ pending.most) × IsNewParameter rows path.quotients i k

-- how many second trees are due
abbrev pub dues : List Frame → ℕ
dues [] = 0
dues (frame.SecondDue c rows mark quotients ∷ frames) = dues frames + 1
dues (frame.FirstMade c first ∷ frames) = dues frames
dues (frame.NewParm form den ∷ frames) = dues frames

-- a turn that closes no node has counted something, which weighs more than a second tree that is due
abbrev pub weight : Turn → ℕ
weight (code.Closed tree) = 0
weight code.Again = 2
weight (code.Split c) = 2
weight (code.Below i k) = 2

-- a node is in hand after another, or after a tree, nearer to the end by a weight and the second trees that are due
pub record IsNextNode (weight : ℕ) (from : Path) (before : Waiting) (rows : TableauRows) (path : Path)
    (pending : Waiting) : Type 0 where
  pub running : IsRunning rows path pending
  pub most : pending.most ≡ before.most
  pub params : path.quotients.params ≡ from.quotients.params
  pub nearer : dues pending.frames + 1 ≤ dues before.frames + weight

-- such a node is in hand, or the whole tree
abbrev pub IsNext : ℕ → Path → Waiting → TableauRows → Path → Waiting → Next → Type 0
IsNext weight from before rows path pending next.Node = IsNextNode weight from before rows path pending
IsNext weight from before rows path pending (next.Tree t) = t.width ≡ from.quotients.params
