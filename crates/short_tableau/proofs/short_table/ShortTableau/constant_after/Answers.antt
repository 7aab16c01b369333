use Rattle.short_tableau.proofs.Words.{rules, arith, row_at, row_of}
use Rattle.short_tableau.proofs.Cutting.{held_short}
use Rattle.short_tableau.proofs.Ended.{constant_put_in}
use Rattle.short_tableau.proofs.short_table.ShortTableau.constant_after.Goals as goal

pub wide_entry-requires-clause-first : goal.wide_entry-requires-clause-first
wide_entry-requires-clause-first c = record { first = held_short c.args.self.now.unknowns c.args.c c.args.p.now.coefs.now c.requires.pivot.row.short.coefs c.requires.pivot.row.row.coefs c.requires.pivot.candidate.column; second = held_short 1 0 c.row-row.result.constant.now c.row-row.ensures.row.short.constant c.row-row.ensures.row.row.constant (omega arith) }

pub wide_entry-requires-clause-second : goal.wide_entry-requires-clause-second
wide_entry-requires-clause-second c = record { first = held_short c.args.self.now.unknowns c.args.c c.row-row.result.coefs.now c.row-row.ensures.row.short.coefs c.row-row.ensures.row.row.coefs c.requires.pivot.candidate.column; second = held_short 1 0 c.args.p.now.constant.now c.requires.pivot.row.short.constant c.requires.pivot.row.row.constant (omega arith) }

pub returns : goal.returns
returns c = search (rules, constant_put_in c.args.self.now.unknowns (row_of c.args.p.now) c.args.c (row_at c.args.self.now.rows c.args.i))
