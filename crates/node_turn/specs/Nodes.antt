-- The node of the run that a tableau and a path stand for.
use Rattle.std.specs.Prelude.{◌≡◌, ℕ, ℤ, ◌+◌, ◌≤◌, List, ◌++◌, length, take}
use Rattle.pip_model.specs.Limits.{most_unknowns, most_params, most_nesting}
use Rattle.pip_model.specs.Cuts.{Quotient}
use Rattle.pip_model.specs.Run.{Node, Setting, class}
use Rattle.tableau.specs.Tableaus.{TableauRows}
use Rattle.sign_split.specs.ContextMark.{ContextMark}
use Rattle.sign_split.specs.Scoped.{IsKeptContext}
use Rattle.new_parameters.specs.Scopes.{size}
use Rattle.node_turn.specs.declared.path.Path.{Path}

abbrev pub node_of : TableauRows → Path → Node
node_of t path =
    record { rows = t.rows; context = path.context.forms; quotients = path.quotients.quotients; depth = path.depth }

-- what stays the same in the run of a problem
abbrev pub setting_of : TableauRows → Path → Setting
setting_of t path =
    record { unknowns = t.unknowns; params = path.quotients.params; integer = path.integer; class = class }

-- the tableau and the path are over the same parameters and quotients, and within the limits
pub record IsNode (t : TableauRows) (path : Path) : Type 0 where
  pub some_unknowns : 1 ≤ t.unknowns
  pub few_unknowns : t.unknowns ≤ most_unknowns
  pub rows : t.unknowns ≤ length t.rows
  pub scope : t.width ≡ size path.quotients
  pub context : path.context.width ≡ t.width
  pub few_params : path.quotients.params ≤ most_params
  pub few_quotients : length path.quotients.quotients ≤ path.depth
  pub shallow : path.depth ≤ most_nesting

-- the path is as before, and its context has as much room
pub record IsKept (path now : Path) : Type 0 where
  pub integer : now.integer ≡ path.integer
  pub depth : now.depth ≡ path.depth
  pub context : IsKeptContext path.context now.context
  pub quotients : now.quotients ≡ path.quotients

-- one level down, with more forms in the context, and with more quotients
pub record IsBelow (path : Path) (added : List (List ℤ)) (keys : List Quotient) (now : Path) : Type 0 where
  pub integer : now.integer ≡ path.integer
  pub depth : now.depth ≡ path.depth + 1
  pub width : now.context.width ≡ path.context.width + length keys
  pub forms : now.context.forms ≡ path.context.forms ++ added
  pub room : length path.context.forms + path.context.spare ≤ length now.context.forms + now.context.spare
  pub quotients : now.quotients ≡ record path.quotients { quotients = path.quotients.quotients ++ keys }

-- at the same depth, with the context and the quotients as they were at marks
pub record IsBack (path : Path) (mark : ContextMark) (count : ℕ) (now : Path) : Type 0 where
  pub integer : now.integer ≡ path.integer
  pub depth : now.depth ≡ path.depth
  pub width : now.context.width ≡ mark.width
  pub forms : now.context.forms ≡ take mark.forms path.context.forms
  pub room : length path.context.forms + path.context.spare ≤ length now.context.forms + now.context.spare
  pub quotients : now.quotients ≡ record path.quotients { quotients = take count path.quotients.quotients }
