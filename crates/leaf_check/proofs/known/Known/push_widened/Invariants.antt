use Rattle.leaf_check.proofs.Words.{◌≡◌, ◌++◌, take, map, widen_to}
use Rattle.leaf_check.proofs.known.Known.push_widened.Given as goal

abbrev pub invariant-loop-form : goal.invariant-loop-form
invariant-loop-form l =
    (l.self.forms ≡ l.fn.self.forms ++ map (widen_to l.fn.self.width) (take l.form-index l.forms))
    × (l.self.width ≡ l.fn.self.width)
