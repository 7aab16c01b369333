-- Where a leaf of the first tree meets one of the second.
use Rattle.std.specs.Prelude.{◌≡◌, ℕ, ◌+◌, ◌≤◌, List, length, IsTrue}
use Rattle.pip_model.specs.Tree.{Tree, Leaf, Component, is_scoped}
use Rattle.pip_model.specs.Tools.{spread_tree}

-- the first over m parameters and n places behind them, the second over the parameters, read at w places
pub record AreMet (m n w : ℕ) (a b : Tree) : Type 0 where
  pub few : m + n ≤ w
  pub first : IsTrue (is_scoped (m + n) a)
  pub second : IsTrue (is_scoped w (spread_tree m n b))

-- two lists of as many components over w places
pub record AreLists (w : ℕ) (cs ds : List Component) : Type 0 where
  pub first : IsTrue (is_scoped w (Leaf cs))
  pub second : IsTrue (is_scoped w (Leaf ds))
  pub lengths : length cs ≡ length ds
