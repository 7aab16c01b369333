use Rattle.leaf_check.proofs.Words.{rules, ap, arith, length}
use Rattle.leaf_check.proofs.Making.{row_made, turned_form}
use Rattle.leaf_check.proofs.forms.turned_row.Goals as goal

pub split_at-requires : goal.split_at-requires
split_at-requires c = rw c.as_slice.ensures.value (omega (arith, c.requires.some))

pub overflow_sub-last : goal.overflow_sub-last
overflow_sub-last c = omega (arith, c.requires.some, c.split_at.ensures.back_len, ap length c.as_slice.ensures.value)

pub split_at-requires-2 : goal.split_at-requires-2
split_at-requires-2 c = omega arith

pub from_entries-requires : goal.from_entries-requires
from_entries-requires c = turned_form c.args.unknowns c.args.scope c.args.row.now c.requires.some c.requires.within c.push.new.self.items (search rules) (search rules)

pub returns-clause-value : goal.returns-clause-value
returns-clause-value c = row_made c.args.unknowns c.args.scope c.args.row.now c.requires.some c.requires.within _ (search rules)
