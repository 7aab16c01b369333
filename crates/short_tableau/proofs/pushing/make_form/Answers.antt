use Rattle.short_tableau.proofs.Words.{rules, arith, ap, length, pos, row_size, form_written, form_short}
use Rattle.std.proofs.lemmas.List.{length-replicate}
use Rattle.short_tableau.proofs.pushing.make_form.Goals as goal

pub narrow_all-requires-then-narrow_all : goal.narrow_all-requires-then-narrow_all
narrow_all-requires-then-narrow_all c =
    omega (arith, c.split_at_mut-front.ensures.back_len, c.split_at_mut-den.ensures.back_len, ap length c.requires.zeros, length-replicate (row_size c.args.unknowns) (pos 0), c.split_at.ensures.back_len, c.requires.form.some)

pub returns-then-narrow_all-clause-items : goal.returns-then-narrow_all-clause-items
returns-then-narrow_all-clause-items c = λ all.
    form_written c.args.unknowns c.args.form.now c.requires.form.some c.requires.narrow c.split_at.result.0.now c.split_at.result.1.now (search rules) (search rules)
    c.args.row.now c.split_at_mut-den.result.0.now c.split_at_mut-den.result.1.now c.split_at_mut-front.result.0.now c.split_at_mut-front-2.result.1.now c.narrow_all.new.numbers c.narrow_all-then-narrow_all.new.numbers
    c.requires.zeros (search rules) (search rules) (search rules) (search rules) (search rules) (search rules)

pub returns-then-narrow_all-clause-short : goal.returns-then-narrow_all-clause-short
returns-then-narrow_all-clause-short c = λ all.
    form_short c.args.unknowns c.args.form.now c.requires.form.some c.requires.narrow c.split_at.result.0.now c.split_at.result.1.now (search rules) (search rules) (search rules) (search rules)
