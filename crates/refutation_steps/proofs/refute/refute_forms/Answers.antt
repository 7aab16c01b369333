use Rattle.refutation_steps.proofs.Words.{rules, length}
use Rattle.refutation_steps.proofs.RefutedPoints.{point_refuted, refute_refuses}
use Rattle.refutation_steps.proofs.refute.refute_forms.Goals as goal

pub returns-clause-point : goal.returns-clause-point
returns-clause-point c = point_refuted (length c.args.places.now) c.args.forms.now c.args.work.now c.refute.new.work c.requires.context c.args.places.now c.args.first

pub returns-clause-refusal : goal.returns-clause-refusal
returns-clause-refusal c = refute_refuses (length c.args.places.now) c.args.forms.now c.args.work.now c.refute.new.work c.requires.context c.args.places.now c.args.first c.refute.result (search rules)
