-- Where the run of a problem starts.
use Rattle.std.specs.Prelude.{◌≡◌, []}
use Rattle.pip_model.specs.Problem.{Problem}
use Rattle.node_turn.specs.declared.path.Path.{Path}

-- the path to a problem's first node
pub record IsFirstPath (P : Problem) (path : Path) : Type 0 where
  pub integer : path.integer ≡ P.integer
  pub depth : path.depth ≡ 0
  pub width : path.context.width ≡ P.params
  pub forms : path.context.forms ≡ P.context
  pub quotients : path.quotients ≡ record { params = P.params; quotients = [] }
