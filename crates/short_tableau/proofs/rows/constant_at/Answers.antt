use Rattle.short_tableau.proofs.Words.{rules}
use Rattle.short_tableau.proofs.Entries.{constant_here}
use Rattle.short_tableau.proofs.rows.constant_at.Goals as goal

pub returns : goal.returns
returns c =
    let here = constant_here c.args.unknowns c.args.rows c.args.i c.args.numbers.now c.requires.dense.size c.requires.row in
    search (rules, here, c.place_of.ensures.value)
