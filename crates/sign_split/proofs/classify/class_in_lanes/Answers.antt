use Rattle.sign_split.proofs.Words.{rules, arith, ◌≡◌, ◌≤◌, ◌-◌, length, tighten, lanes_of, form_in, length_tighten}
use Rattle.sign_split.proofs.LaneClasses.{tight_narrow, tight_again, class_by_sign}
use Rattle.sign_split.proofs.classify.class_in_lanes.Goals as goal

pub returns-in-Ok-clause-gives : goal.returns-in-Ok-clause-gives
returns-in-Ok-clause-gives c =
    let t = tighten c.args.entries.now in
    let form : c.in_ok-form.form ≡ lanes_of t = search rules in
    let few : length c.args.entries.now ≤ 8 = search rules in
    let again : form_in (length c.args.entries.now - 1) c.in_ok-form.form ≡ t = tight_again c.args.entries.now c.in_ok-form.form (length c.args.entries.now - 1) form c.requires.form.some few (omega arith) in
    let asked = rw c.in-Ok.is at (c.in_ok-sign.ensures.gives t form (tight_narrow c.args.context.now.width c.args.entries.now c.requires.form.some c.requires.narrow)) in
    class_by_sign c.args.context.now.width c.args.context.now.forms t c.args.work.now c.sign_in_lanes.new.work c.in-Ok.sign asked
    (form_in (length c.args.entries.now - 1) c.in_ok-form.form) c.class_by_sign.result again c.class_by_sign.ensures.class c.class_by_sign.ensures.refused

pub returns-in-Ok-clause-condition : goal.returns-in-Ok-clause-condition
returns-in-Ok-clause-condition c =
    let form : c.in_ok-form.form ≡ lanes_of (tighten c.args.entries.now) = search rules in
    let few : length c.args.entries.now ≤ 8 = search rules in
    let again = tight_again c.args.entries.now c.in_ok-form.form (length c.args.entries.now - 1) form c.requires.form.some few (omega arith) in
    rw (again, length_tighten c.args.entries.now) at c.class_by_sign.ensures.condition
