use Rattle.leaf_check.proofs.Words.{◌≡◌, ◌≤◌, ◌++◌, length, take, drop, smaller_from}
use Rattle.leaf_check.proofs.known.Known.push_smaller.Given as goal

abbrev pub invariant-loop-i : goal.invariant-loop-i
invariant-loop-i l =
    (l.self.forms ++ drop l.i (smaller_from l.fn.self.width l.scope l.front) ≡ l.fn.self.forms ++ drop l.first (smaller_from l.fn.self.width l.scope l.front))
    × (l.self.width ≡ l.fn.self.width)
    × (take (length l.fn.self.forms) l.self.forms ≡ l.fn.self.forms)
    × (length l.fn.self.forms ≤ length l.self.forms)
