use Rattle.tableau_row.proofs.Words.{rules, arith, ◌∙◌, common_steps, row_of, eliminated_parts}
use Rattle.tableau_row.proofs.elimination.check_eliminated.Goals as goal

pub returns-in_err-times : goal.returns-in_err-times
returns-in_err-times c =
    let parts = eliminated_parts (row_of c.args.p.now) c.args.c (row_of c.args.row.now) in
    grind (arith, common_steps, parts)

pub returns-in_err-times-2 : goal.returns-in_err-times-2
returns-in_err-times-2 c =
    let parts = eliminated_parts (row_of c.args.p.now) c.args.c (row_of c.args.row.now) in
    grind (arith, common_steps, parts)

pub returns-in_err-check_but : goal.returns-in_err-check_but
returns-in_err-check_but c =
    let parts = eliminated_parts (row_of c.args.p.now) c.args.c (row_of c.args.row.now) in
    grind (arith, common_steps, parts)

pub returns-in_err-check_combined : goal.returns-in_err-check_combined
returns-in_err-check_combined c =
    let parts = eliminated_parts (row_of c.args.p.now) c.args.c (row_of c.args.row.now) in
    grind (arith, common_steps, parts)

pub returns : goal.returns
returns c =
    eliminated_parts (row_of c.args.p.now) c.args.c (row_of c.args.row.now) ∙ search rules
