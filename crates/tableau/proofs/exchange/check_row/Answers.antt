use Rattle.tableau.proofs.Words.{◌≡◌, pos, rules, arith, entry, row_of, eliminated_listed_one, short_eliminated}
use Rattle.tableau.proofs.exchange.check_row.Goals as goal

pub returns-then-row-c-eq0 : goal.returns-then-row-c-eq0
returns-then-row-c-eq0 c =
    let one : entry c.args.p.now.coefs.now c.args.c ≡ pos 1 = search rules in
    let none : entry c.args.row.now.coefs.now c.args.c ≡ pos 0 = search rules in
    eliminated_listed_one (row_of c.args.p.now) c.args.c (row_of c.args.row.now) one none c.requires.row.coefs (omega (arith, c.requires.row.constant, c.requires.p.constant))
    c.requires.row.den_fits c.requires.row.coefs_fit c.requires.row.constant_fit

pub returns-then-is_known_short-2 : goal.returns-then-is_known_short-2
returns-then-is_known_short-2 c =
    short_eliminated (row_of c.args.p.now) c.args.c (row_of c.args.row.now) (search rules) (search rules) c.requires.column c.requires.row.coefs
