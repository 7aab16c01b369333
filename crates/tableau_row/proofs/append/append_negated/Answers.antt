use Rattle.tableau_row.proofs.Words.{rules, pos, arith, common_steps, negate, negated_step}
use Rattle.tableau_row.proofs.Lent.{appends}
use Rattle.tableau_row.proofs.append.append_negated.Goals as goal

pub loop-entry-preserved : goal.loop-entry-preserved
loop-entry-preserved c = record {
  items = negated_step c.args.numbers.now.items c.loop-entry.numbers.items c.append_one.new.numbers.items c.args.entries.now c.loop-entry.entry-index c.short_opposite.result (pos 0) (omega arith) c.loop-entry.invariant.items (search rules) (search rules);
  length = search rules;
  room = search rules;
}

pub returns-clause-appended : goal.returns-clause-appended
returns-clause-appended c = appends c.args.numbers.now c.loop-entry.numbers (negate c.args.entries.now) (grind (arith, common_steps)) c.loop-entry.invariant.room
