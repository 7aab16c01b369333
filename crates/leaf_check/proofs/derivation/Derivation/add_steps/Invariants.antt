use Rattle.leaf_check.proofs.Words.{◌≡◌, ◌≤◌, drop, take, length, after_steps}
use Rattle.leaf_check.proofs.derivation.Derivation.add_steps.Given as goal

abbrev pub invariant-loop-i : goal.invariant-loop-i
invariant-loop-i l =
    (after_steps l.leaf l.refutation 0 l.fn.self.width l.fn.self.forms l.steps ≡ after_steps l.leaf l.refutation l.i l.self.width l.self.forms (drop l.i l.steps))
    × (l.self.width ≡ l.fn.self.width)
    × (take (length l.fn.self.forms) l.self.forms ≡ l.fn.self.forms)
    × (length l.fn.self.forms ≤ length l.self.forms)
