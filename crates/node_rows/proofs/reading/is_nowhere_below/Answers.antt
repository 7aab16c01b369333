use Rattle.node_rows.proofs.Words.{rules}
use Rattle.node_rows.proofs.ReadRows.{nonneg_read}
use Rattle.node_rows.proofs.reading.is_nowhere_below.Goals as goal

pub returns : goal.returns
returns c = λ _. nonneg_read c.args.rows.now c.args.basis.now c.args.form.now c.requires (λ m lt. c.loop-m.invariant m (search (rules, lt)))
