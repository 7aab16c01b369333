use Rattle.leaf_check.proofs.Words.{◌≡◌, ◌++◌, take, map, row_form}
use Rattle.leaf_check.proofs.known.Known.push_rows.Given as goal

abbrev pub invariant-loop-row : goal.invariant-loop-row
invariant-loop-row l =
    (l.self.forms ≡ l.fn.self.forms ++ map (row_form l.unknowns l.scope) (take l.row-index l.rows))
    × (l.self.width ≡ l.fn.self.width)
