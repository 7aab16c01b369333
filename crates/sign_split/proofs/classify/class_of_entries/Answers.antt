use Rattle.sign_split.proofs.Words.{rules, arith}
use Rattle.sign_split.proofs.ClassMeaning.{class_means, class_refuses}
use Rattle.sign_split.proofs.classify.class_of_entries.Goals as goal

pub returns-clause-tells : goal.returns-clause-tells
returns-clause-tells c = class_means c.args.context.now.width c.args.context.now.forms c.args.entries.now c.args.work.now c.class_at.new.work (search rules) (omega (arith, c.requires.form.some)) c.requires.narrow c.class_at.result c.class_at.ensures.gives.agrees

pub returns-clause-refusal : goal.returns-clause-refusal
returns-clause-refusal c = class_refuses c.args.context.now.width c.args.context.now.forms c.args.entries.now c.args.work.now c.class_at.new.work (search rules) (omega (arith, c.requires.form.some)) c.requires.narrow c.class_at.result c.class_at.ensures.gives.agrees
