use Rattle.lanes.proofs.Words.{rules, arith, get_or, ◌≡◌, ◌∙◌, ap, pos, to_z, of_z, w32, is_nonneg, entry}
use Rattle.lanes.proofs.Sums.{nonneg_all, nonneg_next}
use Rattle.lanes.proofs.rows.are_nowhere_below.Goals as goal

pub loop-k-preserved : goal.loop-k-preserved
loop-k-preserved c =
    let x : to_z w32 (of_z w32 (get_or c.args.row.now c.loop-k.k (pos 0))) ≡ entry c.args.row.now c.loop-k.k = search rules in
    c.both-all.ensures ∙ nonneg_next c.args.row.now c.loop-k.k _ _ (omega arith) c.loop-k.invariant (c.is_at_least_zero.ensures.value ∙ ap is_nonneg x)

pub returns : goal.returns
returns c = c.loop-k.invariant ∙ nonneg_all c.args.row.now c.loop-k.k (omega arith)
