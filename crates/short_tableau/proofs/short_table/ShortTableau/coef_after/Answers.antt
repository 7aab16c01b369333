use Rattle.short_tableau.proofs.Words.{rules, row_at, row_of}
use Rattle.short_tableau.proofs.Cutting.{held_short}
use Rattle.short_tableau.proofs.Ended.{own_coef_put_in, coef_put_in}
use Rattle.short_tableau.proofs.short_table.ShortTableau.coef_after.Goals as goal

pub wide_entry-requires-clause-first : goal.wide_entry-requires-clause-first
wide_entry-requires-clause-first c = record { first = held_short c.args.self.now.unknowns c.args.c c.args.p.now.coefs.now c.requires.pivot.row.short.coefs c.requires.pivot.row.row.coefs c.requires.pivot.candidate.column; second = held_short c.args.self.now.unknowns c.args.k c.row-row.result.coefs.now c.row-row.ensures.row.short.coefs c.row-row.ensures.row.row.coefs c.requires.column }

pub wide_entry-requires-clause-second : goal.wide_entry-requires-clause-second
wide_entry-requires-clause-second c = record { first = held_short c.args.self.now.unknowns c.args.c c.row-row.result.coefs.now c.row-row.ensures.row.short.coefs c.row-row.ensures.row.row.coefs c.requires.pivot.candidate.column; second = held_short c.args.self.now.unknowns c.args.k c.args.p.now.coefs.now c.requires.pivot.row.short.coefs c.requires.pivot.row.row.coefs c.requires.column }

pub returns-then-k-c : goal.returns-then-k-c
returns-then-k-c c = search (rules, own_coef_put_in c.args.self.now.unknowns (row_of c.args.p.now) c.args.c (row_at c.args.self.now.rows c.args.i))

pub returns : goal.returns
returns c = search (rules, coef_put_in c.args.self.now.unknowns (row_of c.args.p.now) c.args.c (row_at c.args.self.now.rows c.args.i))
