use Rattle.leaf_check.proofs.Words.{◌≡◌, ◌++◌, places_from}
use Rattle.leaf_check.proofs.known.Known.push_places.Given as goal

abbrev pub invariant-loop-i : goal.invariant-loop-i
invariant-loop-i l = (l.self.forms ≡ l.fn.self.forms ++ places_from l.fn.self.width l.first l.i) × (l.self.width ≡ l.fn.self.width)
