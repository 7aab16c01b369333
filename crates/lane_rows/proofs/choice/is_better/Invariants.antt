use Rattle.lane_rows.proofs.Words.{◌≡◌, pos, drop, is_better, row_over, numbers_of, undivided_in}
use Rattle.lane_rows.proofs.choice.is_better.Given as goal

abbrev pub invariant-loop-i : goal.invariant-loop-i
invariant-loop-i l =
    let u = undivided_in l.n (pos 1) l.n l.rows in
    let p = row_over l.n (pos 1) (numbers_of l.n l.p) in
    is_better (drop l.i u) p l.k l.b ≡ is_better u p l.k l.b
