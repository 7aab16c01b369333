use Rattle.short_tableau.proofs.Words.{◌≡◌, drop, take, is_better, row_of}
use Rattle.short_tableau.proofs.short_table.ShortTableau.is_better.Given as goal

abbrev pub invariant-loop-i : goal.invariant-loop-i
invariant-loop-i l =
    let u = take l.self.unknowns l.self.rows in
    is_better (drop l.i u) (row_of l.p) l.k l.b ≡ is_better u (row_of l.p) l.k l.b
