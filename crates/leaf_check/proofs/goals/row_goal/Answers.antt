use Rattle.leaf_check.proofs.Words.{arith, rules, drop, widen_to, opposite_listed, put_in, put_in_listed, is_form_overflow}
use Rattle.leaf_check.proofs.Smaller.{checked_behind}
use Rattle.leaf_check.proofs.goals.row_goal.Goals as goal

pub returns-clause-listed : goal.returns-clause-listed
returns-clause-listed c =
    let first = widen_to c.args.scope (drop c.args.unknowns c.args.row.now) in
    checked_behind is_form_overflow (put_in_listed first c.args.row.now c.args.components.now) (opposite_listed (put_in first c.args.row.now c.args.components.now)) c.opposite_over.result (search rules) (search rules)

pub row_at-requires-clause-some : goal.row_at-requires-clause-some
row_at-requires-clause-some c = c.requires.some

pub row_at-requires-clause-within : goal.row_at-requires-clause-within
row_at-requires-clause-within c = c.requires.within

pub row_at-requires-clause-count : goal.row_at-requires-clause-count
row_at-requires-clause-count c = c.requires.count

pub row_at-requires-clause-widths : goal.row_at-requires-clause-widths
row_at-requires-clause-widths c = c.requires.widths

pub opposite_over-requires : goal.opposite_over-requires
opposite_over-requires c = omega (arith, c.in_ok-r.ensures.long)
