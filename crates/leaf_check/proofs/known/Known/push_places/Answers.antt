use Rattle.leaf_check.proofs.Words.{rules}
use Rattle.leaf_check.proofs.Making.{places_step}
use Rattle.leaf_check.proofs.known.Known.push_places.Goals as goal

pub loop-i-preserved : goal.loop-i-preserved
loop-i-preserved c = (places_step c.args.self.now.forms c.push.new.self.forms c.args.self.now.width c.args.first c.loop-i.i c.in_ok-form.form (search rules) (search rules), search rules)
