use Rattle.short_tableau.proofs.Words.{◌+◌, length, length-append, arith, ◌++◌, subst, ℕ, All, All-append, IsShortReduced}
use Rattle.short_tableau.proofs.Fitting.{entering_fits}
use Rattle.short_tableau.proofs.short_table.ShortTableau.entering_behind.Goals as goal

pub returns-clause-listed : goal.returns-clause-listed
returns-clause-listed c =
    let n = c.args.self.now.unknowns in
    let rows = c.args.self.now.rows in
    let more = c.args.t.now.rows in
    let behind = subst (λ (k : ℕ). All (IsShortReduced k 0) c.args.t.now.rows) c.requires.unknowns c.columns-2.ensures.rows in
    entering_fits n (length rows + c.args.i) (rows ++ more) (All-append (IsShortReduced n 0) rows more c.columns.ensures.rows behind) (omega (arith, length-append rows more, c.requires.row))
