use Rattle.tableau_row.proofs.Words.{arith, rules, All-append, All-set, Fits, drop_two, listed_sides, set_sides}
use Rattle.tableau_row.proofs.elimination.combine_but.Goals as goal

pub combine_all-requires-clause-listed : goal.combine_all-requires-clause-listed
combine_all-requires-clause-listed c =
    let sides = listed_sides c.args.by.a c.args.by.b c.args.r.now c.args.s.now c.args.c c.requires.lengths c.requires.listed in
    search (rules, sides.0)

pub combine_all-requires-2-clause-listed : goal.combine_all-requires-2-clause-listed
combine_all-requires-2-clause-listed c =
    let sides = listed_sides c.args.by.a c.args.by.b c.args.r.now c.args.s.now c.args.c c.requires.lengths c.requires.listed in
    search (rules, sides.1, drop_two)

pub returns-clause-value : goal.returns-clause-value
returns-clause-value c =
    set_sides c.args.by.a c.args.by.b _ c.args.entry c.args.r.now c.args.s.now c.args.c c.combine_all.new.r c.split_at_mut-at.result.0.now c.combine_all-2.new.r c.requires.lengths (omega (arith, c.requires.lengths)) (search rules)
    (search rules) (search (rules, drop_two)) (search rules)

pub returns-clause-fits : goal.returns-clause-fits
returns-clause-fits c =
    All-append Fits _ _ c.combine_all.ensures.fits
    (All-append Fits _ _ (All-set Fits _ _ _ (search rules) (search rules)) c.combine_all-2.ensures.fits)
