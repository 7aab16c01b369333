use Rattle.tableau_row.proofs.Words.{rules, ◌≡◌, false, is_zero, entry, found, not_found, none_found}
use Rattle.tableau_row.proofs.row.unit_of.Goals as goal

pub returns-then-is_one-clause-value : goal.returns-then-is_one-clause-value
returns-then-is_one-clause-value c = found c.args.coefs.now c.loop-i.i (search rules) c.loop-i.invariant (search rules)

pub returns-else-is_one-clause-none : goal.returns-else-is_one-clause-none
returns-else-is_one-clause-none c =
    let none : is_zero (entry c.args.coefs.now c.loop-i.i) ≡ false = search rules in
    not_found c.args.coefs.now c.loop-i.i (search rules) c.loop-i.invariant none (search rules)

pub returns-clause-none : goal.returns-clause-none
returns-clause-none c = none_found c.args.coefs.now c.loop-i.i (search rules) c.loop-i.invariant
