use Rattle.short_tableau.proofs.Words.{rules, sym}
use Rattle.short_tableau.proofs.Places.{split_twice, split_read}
use Rattle.short_tableau.proofs.rows.numbers_in.Goals as goal

pub returns-clause-value : goal.returns-clause-value
returns-clause-value c =
    let split = split_twice c.args.unknowns c.args.rows c.args.i c.place_of.result c.args.numbers.now c.split_at.result.0.now c.split_at.result.1.now c.split_at-2.result.0.now c.split_at-2.result.1.now
    c.requires.dense c.requires.row (search rules) (search rules) c.split_at.ensures.front c.split_at.ensures.back c.split_at-2.ensures.front c.split_at-2.ensures.back in
    sym (split_read _ _ _ _ _ _ _ split)
