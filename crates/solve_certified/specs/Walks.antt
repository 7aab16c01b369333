-- The walk over a tree.
use Rattle.std.specs.Prelude.{◌≡◌, ℕ, ◌+◌, ◌^◌, ◌<◌, ◌≤◌, Bool, true, ◌&&◌, IsTrue, [], ◌++◌, length, Some}
use Rattle.pip_model.specs.Problem.{Problem}
use Rattle.pip_model.specs.Tree.{Tree, Bottom, Leaf, If, NewParm, Answer, Void, Solved, nesting, is_scoped}
use Rattle.pip_model.specs.Printed.{tree_fits}
use Rattle.pip_model.specs.Certificate.{Certificate}
use Rattle.pip_model.specs.Check.{leaf_cases, is_whole_list}
use Rattle.pip_model.specs.Run.{Counted, ◌>>=◌, give}
use Rattle.pip_model.specs.Made.{path_quotients, made_leaves}
use Rattle.solve_certified.specs.Quotients.{ReadsPlaces}
use Rattle.solve_certified.specs.Trails.{TrailForms}

-- the certificate after the leaves below the node at the trail's end
abbrev pub made_below : Problem → TrailForms → Certificate → Tree → Counted Certificate
made_below P q c t = do
  ls ← made_leaves P (leaf_cases q.scope q.forms [] t) (path_quotients (length q.forms) q.quotients t)
  give (record c { leaves = c.leaves ++ ls })

-- each list has a component of denominator 1 for each of n unknowns
abbrev pub are_whole : ℕ → Tree → Bool
are_whole n Bottom = true
are_whole n (Leaf cs) = is_whole_list n (Some cs)
are_whole n (If v a b) = are_whole n a && are_whole n b
are_whole n (NewParm v d a) = are_whole n a

abbrev pub is_whole_answer : ℕ → Answer → Bool
is_whole_answer n Void = true
is_whole_answer n (Solved t) = are_whole n t

-- the tree of the node at the trail's end
pub record IsAt (P : Problem) (q : TrailForms) (t : Tree) : Type 0 where
  pub some : 1 ≤ P.unknowns
  pub scope : q.scope ≡ P.params + length q.quotients
  pub reads : ReadsPlaces P.params q.quotients
  pub scoped : IsTrue (is_scoped q.scope t)
  pub fits : IsTrue (tree_fits t)
  pub room : q.scope + nesting t < 2 ^ 64
  pub whole : IsTrue (are_whole P.unknowns t)
