use Rattle.tableau_row.proofs.Words.{rules, row_from, row_of, pivot_over, listed_parts, substituted_row}
use Rattle.tableau_row.proofs.elimination.substitute_long.Goals as goal

pub exact_product-requires : goal.exact_product-requires
exact_product-requires c =
    let parts = listed_parts (row_of c.args.p.now) c.args.c (row_from c.args.den c.args.coefs.now c.args.constant.now) c.requires.listed in
    search (rules, parts.entry_fits)

pub combine_but-requires-clause-listed : goal.combine_but-requires-clause-listed
combine_but-requires-clause-listed c =
    let parts = listed_parts (row_of c.args.p.now) c.args.c (row_from c.args.den c.args.coefs.now c.args.constant.now) c.requires.listed in
    search (rules, parts.coefs)

pub combine_all-requires-clause-listed : goal.combine_all-requires-clause-listed
combine_all-requires-clause-listed c =
    let parts = listed_parts (row_of c.args.p.now) c.args.c (row_from c.args.den c.args.coefs.now c.args.constant.now) c.requires.listed in
    search (rules, parts.constant)

pub returns-clause-value : goal.returns-clause-value
returns-clause-value c = search rules

pub returns-clause-row : goal.returns-clause-row
returns-clause-row c =
    let p = row_of c.args.p.now in
    let r = row_from c.args.den c.args.coefs.now c.args.constant.now in
    substituted_row _ _ c.args.c p r _ (returns-clause-value c) (pivot_over c.args.c p r c.requires.step) c.requires.step.row c.requires.step.pivot.positive
    (search rules) (search rules) (search rules)
