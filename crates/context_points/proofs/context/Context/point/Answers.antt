use Rattle.context_points.proofs.Words.{rules}
use Rattle.context_points.proofs.PointMeaning.{point_means, point_refuses}
use Rattle.context_points.proofs.context.Context.point.Goals as goal

pub returns-clause-tells : goal.returns-clause-tells
returns-clause-tells c = point_means c.args.self.now.width c.args.self.now.forms c.args.work.now c.find_point.new.work (search rules) c.find_point.result (search rules)

pub returns-clause-refusal : goal.returns-clause-refusal
returns-clause-refusal c = point_refuses c.args.self.now.width c.args.self.now.forms c.args.work.now c.find_point.new.work (search rules) c.find_point.result (search rules)
