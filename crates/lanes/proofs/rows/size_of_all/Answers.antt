use Rattle.lanes.proofs.Words.{rules, arith}
use Rattle.lanes.proofs.Sums.{sizes_all, sizes_more}
use Rattle.lanes.proofs.rows.size_of_all.Goals as goal

pub loop-k-preserved : goal.loop-k-preserved
loop-k-preserved c = record {
  narrow = omega (arith, c.with_size-all.ensures.narrow);
  within = sizes_more c.args.row.now c.loop-k.k c.loop-k.all c.with_size-all.result (omega arith) c.loop-k.invariant.within c.with_size-all.ensures.more (search rules);
}

pub returns-clause-within : goal.returns-clause-within
returns-clause-within c = sizes_all c.args.row.now c.loop-k.k c.loop-k.all (omega arith) c.loop-k.invariant.within
