-- The forms of a leaf's refutations, as they are made and as the check keeps them.
use Rattle.std.specs.Prelude.{◌≡◌, ◌+◌}
use Rattle.leaf_check.specs.declared.leaf.Leaf.{Leaf}
use Rattle.leaf_check.specs.declared.goal_forms.GoalForms.{GoalForms}

-- they are over what is in scope and the unknowns
pub record AreOf (l : Leaf) (g : GoalForms) : Type 0 where
  pub made : g.made.width ≡ l.scope + l.problem.now.unknowns
  pub kept : g.kept.width ≡ l.scope + l.problem.now.unknowns
