use Rattle.sign_split.proofs.Words.{rules, run_fault}
use Rattle.sign_split.proofs.ByPoints.{refused_above}
use Rattle.sign_split.proofs.classify.class_above.Goals as goal

pub returns-in_err-point_with-clause-gives : goal.returns-in_err-point_with-clause-gives
returns-in_err-point_with-clause-gives c =
    record {
      agrees = search (rules, refused_above c.args.context.now.width c.args.context.now.forms c.args.form c.args.work.now c.point_with.new.work (run_fault c.in_err-point_with.field-0.0) c.in_err-point_with.ensures.gives.agrees);
      counted = c.in_err-point_with.ensures.gives.counted;
    }
