use Rattle.short_tableau.proofs.Words.{rules, pos, arith, written_step, short_step}
use Rattle.short_tableau.proofs.pushing.narrow_all.Goals as goal

pub loop-i-preserved : goal.loop-i-preserved
loop-i-preserved c = record {
  items = written_step c.args.entries.now c.args.numbers.now c.loop-i.numbers c.loop-i.i _ (omega arith) c.requires c.loop-i.invariant.items (search rules);
  short = short_step c.args.entries.now c.loop-i.i c.in-Some.short (pos 0) (omega arith) c.loop-i.invariant.short (search rules) (search rules);
}
