use Rattle.sign_split.proofs.Words.{rules, arith, ◌≡◌, true, [], ◌∷◌, ◌++◌, opposite, opposite_listed, all_fit, Done, has_point, counted_on}
use Rattle.sign_split.proofs.Opposites.{opposite_length, turned_back, back_fits}
use Rattle.sign_split.proofs.ByPoints.{goes_above}
use Rattle.sign_split.proofs.classify.class_by_points.Goals as goal

pub point_with-requires : goal.point_with-requires
point_with-requires c =
    let made : c.opposite.new.self ≡ opposite c.args.form = search rules in
    rw made (omega (arith, opposite_length c.args.form, c.requires))

pub take_opposite-requires : goal.take_opposite-requires
take_opposite-requires c = back_fits c.args.form c.opposite.new.self (search rules) (search rules)

pub class_above-requires-clause-narrow : goal.class_above-requires-clause-narrow
class_above-requires-clause-narrow c =
    rw (turned_back c.args.form c.opposite.new.self c.take_opposite.result (search rules) (search rules) (search rules)) (search rules)

pub class_above-requires-clause-opposite_fits : goal.class_above-requires-clause-opposite_fits
class_above-requires-clause-opposite_fits c =
    rw (turned_back c.args.form c.opposite.new.self c.take_opposite.result (search rules) (search rules) (search rules)) (search rules)

pub returns-clause-gives : goal.returns-clause-gives
returns-clause-gives c =
    let made : c.opposite.new.self ≡ opposite c.args.form = search rules in
    let back = turned_back c.args.form c.opposite.new.self c.take_opposite.result (search rules) made (search rules) in
    let fit : all_fit (opposite_listed c.args.form) ≡ true = search rules in
    let first : has_point c.args.context.now.width (c.args.context.now.forms ++ opposite c.args.form ∷ []) c.args.work.now ≡ Done true c.point_with.new.work = rw (← made) (search rules) in
    let told = rw (back, c.in_ok-point_with.ensures.kept.width, c.in_ok-point_with.ensures.kept.forms) at c.class_above.ensures.gives.agrees in
    record {
      agrees = rw (goes_above c.args.context.now.width c.args.context.now.forms c.args.form c.args.work.now c.point_with.new.work fit first) told;
      counted = counted_on c.args.work.now c.point_with.new.work c.class_above.new.work c.in_ok-point_with.ensures.gives.counted c.class_above.ensures.gives.counted;
    }

pub returns-clause-condition : goal.returns-clause-condition
returns-clause-condition c =
    let back = turned_back c.args.form c.opposite.new.self c.take_opposite.result (search rules) (search rules) (search rules) in
    rw back at c.class_above.ensures.condition
