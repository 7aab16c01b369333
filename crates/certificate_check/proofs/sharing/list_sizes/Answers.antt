use Rattle.certificate_check.proofs.Words.{rules}
use Rattle.certificate_check.proofs.Commons.{counts_step}
use Rattle.certificate_check.proofs.sharing.list_sizes.Goals as goal

pub loop-i-preserved : goal.loop-i-preserved
loop-i-preserved c = counts_step c.loop-i.made.items c.push.new.self.items c.args.ones c.args.first c.loop-i.i (search rules) c.loop-i.invariant
