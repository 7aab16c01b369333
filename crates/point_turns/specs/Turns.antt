-- Steps of a run, and the run without parameters, turn by turn.
use Rattle.std.specs.Prelude.{◌≡◌, ℕ, ◌≤◌, Bool, true, false, List, [], ◌∷◌, ◌++◌, length}
use Rattle.pip_model.specs.Tree.{Bottom}
use Rattle.pip_model.specs.Rows.{Row, row_at}
use Rattle.pip_model.specs.Cuts.{constant_cut}
use Rattle.pip_model.specs.Run as run
use Rattle.pip_model.specs.Run.{Counted, ◌>>◌, give, count_cut, Node, point_setting, leaf}
use Rattle.short_tableau.specs.Tableaus.{TableauRows}
pub use Rattle.short_tableau.specs.Below.{negative_from}
use Rattle.point_turns.specs.declared.turns.PointTurn.{PointTurn}
use Rattle.point_turns.specs.declared.turns.PointTurn.TheVariants as code

-- a node without parameters
abbrev pub node_of : List Row → Node
node_of rows = record { rows = rows; context = []; quotients = []; depth = 0 }

-- what a turn made of a node, the rows now being these
abbrev pub made : ℕ → List Row → PointTurn → run.Turn
made n rows (code.Bottom r) = run.Closed Bottom
made n rows code.List = run.Closed (leaf (point_setting n) (node_of rows))
made n rows (code.Pivot r c) = run.Again (node_of rows)
made n rows (code.Cut i) = run.Again (node_of rows)

-- the turn of a node at a row below 0: bottom where no column enters, else it goes on from these rows
abbrev pub pivoted : Node → List Row → Bool → run.Turn
pivoted N rows true = run.Again (record N { rows = rows })
pivoted N rows false = run.Closed Bottom

-- a cut is counted, and then that of row i added
abbrev pub counted_cut : List Row → ℕ → Counted (List Row)
counted_cut rows i = do
  count_cut
  give (rows ++ constant_cut (row_at rows i) ∷ [])

-- a tableau that became another over the same columns and places, and lost no unknown's row
pub record HasSameScope (t now : TableauRows) : Type 0 where
  pub unknowns : now.unknowns ≡ t.unknowns
  pub width : now.width ≡ t.width
  pub rows : t.unknowns ≤ length t.rows → t.unknowns ≤ length now.rows
