use Rattle.form_run.proofs.Words.{rules, summed, numbers_made}
use Rattle.row_laws.proofs.RowLaws.{count_map}
use Rattle.form_run.proofs.room.read.Goals as goal

pub loop-k-preserved : goal.loop-k-preserved
loop-k-preserved c = search (rules, count_map (summed c.args.places.now c.args.basis.now c.args.form.now) c.loop-k.k)

pub returns : goal.returns
returns c = numbers_made c.args.places.now c.args.basis.now c.args.form.now _ c.value.result (search rules) (search rules)
