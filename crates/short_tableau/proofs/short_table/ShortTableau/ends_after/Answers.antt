use Rattle.short_tableau.proofs.Words.{subst, ℕ, row_at, IsShortReduced}
use Rattle.short_tableau.proofs.Fitting.{flat_fit}
use Rattle.short_tableau.proofs.short_table.ShortTableau.ends_after.Goals as goal

pub returns-clause-listed : goal.returns-clause-listed
returns-clause-listed c =
    let row = subst (λ (k : ℕ). IsShortReduced k 0 (row_at c.args.t.now.rows c.args.i)) c.requires.unknowns (subst (IsShortReduced c.args.t.now.unknowns 0) c.row-p.ensures.value c.row-p.ensures.row) in
    flat_fit c.args.self.now.unknowns (row_at c.args.t.now.rows c.args.i) c.args.c c.args.self.now.rows row c.requires.candidate.column c.columns.ensures.rows
