use Rattle.leaf_check.proofs.Words.{◌≡◌, ◌+◌, drop, map, [], option_copied, joined, leaf_premises, check_refutations, case_of, AreBehind}
use Rattle.leaf_check.specs.GoalForms.{AreOf}
use Rattle.leaf_check.proofs.goal_forms.GoalForms.refute_all.Given as goal

abbrev pub invariant-loop-r : goal.invariant-loop-r
invariant-loop-r l =
    let front = l.fn.self.kept.forms in
    let width = l.leaf.scope + l.leaf.problem.now.unknowns in
    let own = map (joined (record { known = front; listed = [] })) (leaf_premises l.leaf.problem.now (case_of l.leaf) (option_copied l.leaf.list)) in
    (AreOf l.leaf l.self)
    × (AreBehind front l.leaf l.r l.self.kept)
    × (check_refutations l.leaf.number 1 width own l.refutations ≡ check_refutations l.leaf.number (l.r + 1) width (drop l.r own) (drop l.r l.refutations))
