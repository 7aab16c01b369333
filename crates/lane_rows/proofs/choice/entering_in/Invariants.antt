use Rattle.lane_rows.proofs.Words.{◌≡◌, ◌<◌, pos, IfSome, entering_of, candidates, choice, candidates_from, IsCandidate, row_over, numbers_of, undivided_in}
use Rattle.lane_rows.proofs.choice.entering_in.Given as goal

abbrev pub invariant-loop-k : goal.invariant-loop-k
invariant-loop-k l =
    let u = undivided_in l.n (pos 1) l.n l.rows in
    let p = row_over l.n (pos 1) (numbers_of l.n l.p) in
    record {
      value : choice u p l.best (candidates_from p l.k) ≡ entering_of u p (candidates p);
      candidate : IfSome l.best (IsCandidate l.n p);
      before : IfSome l.best (λ b. b < l.k);
    }
