use Rattle.sign_split.proofs.Words.{rules, arith, counted_none, class_of, run_fault, class_by_points, tighten, IsCountedRun}
use Rattle.sign_split.proofs.TightSigns.{class_plus, class_minus, class_points}
use Rattle.sign_split.proofs.classify.class_at.Goals as goal

pub returns-then-is_nowhere_below-clause-gives : goal.returns-then-is_nowhere_below-clause-gives
returns-then-is_nowhere_below-clause-gives c = record { agrees = class_plus c.args.context.now.forms c.args.context.now.width c.args.entries.now c.args.work.now (search rules); counted = counted_none c.args.work.now }

pub returns-then-is_everywhere_below-clause-gives : goal.returns-then-is_everywhere_below-clause-gives
returns-then-is_everywhere_below-clause-gives c = record { agrees = class_minus c.args.context.now.forms c.args.context.now.width c.args.entries.now c.args.work.now (omega (arith, c.requires.form.some)) (search rules) (search rules); counted = counted_none c.args.work.now }

pub returns-in-Some-clause-gives : goal.returns-in-Some-clause-gives
returns-in-Some-clause-gives c =
    let points = class_points c.args.context.now.forms c.args.context.now.width c.args.entries.now c.args.work.now (omega (arith, c.requires.form.some)) (search rules) (search rules) in
    let gives : IsCountedRun class_of run_fault c.in-Some.class c.args.work.now c.class_in_lanes.new.work (class_by_points c.args.context.now.width c.args.context.now.forms (tighten c.args.entries.now)) = c.in-Some.ensures.gives in
    record { agrees = rw points gives.agrees; counted = gives.counted }

pub returns-clause-gives : goal.returns-clause-gives
returns-clause-gives c =
    let points = class_points c.args.context.now.forms c.args.context.now.width c.args.entries.now c.args.work.now (omega (arith, c.requires.form.some)) (search rules) (search rules) in
    record { agrees = rw points (search rules); counted = search rules }
