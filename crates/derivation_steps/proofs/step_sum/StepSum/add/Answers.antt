use Rattle.derivation_steps.proofs.Words.{◌≡◌, ◌≤◌, ◌∙◌, ◌-◌, get_or, w128, refl, sym, arith, rules, common_steps, to_z-of_z, pos, length, take, entry, plus_term_listed, width, widen_to, length-widened, is_form_overflow, to_z, of_z, refused, total, IsPartSum}
use Rattle.derivation_steps.proofs.Spreading.{no_multiple, no_multiple_listed, total_fits, length-total, narrow_added, narrow_listed}
use Rattle.derivation_steps.proofs.step_sum.StepSum.add.Goals as goal

pub returns-then-m-eq0-clause-listed : goal.returns-then-m-eq0-clause-listed
returns-then-m-eq0-clause-listed c =
    let part : IsPartSum c.args.self.now = search rules in
    let zero : c.args.m ≡ pos 0 = search rules in
    let narrow : width c.args.form.now ≤ c.args.self.now.width = omega (arith, c.requires.within) in
    let long = length-total c.args.self.now part ∙ sym (length-widened c.args.self.now.width c.args.form.now narrow) in
    rw zero (no_multiple_listed (total c.args.self.now) (widen_to c.args.self.now.width c.args.form.now) long (total_fits c.args.self.now part))

pub returns-then-m-eq0-clause-ok : goal.returns-then-m-eq0-clause-ok
returns-then-m-eq0-clause-ok c =
    let part : IsPartSum c.args.self.now = search rules in
    let zero : c.args.m ≡ pos 0 = search rules in
    let narrow : width c.args.form.now ≤ c.args.self.now.width = omega (arith, c.requires.within) in
    let long = length-total c.args.self.now part ∙ sym (length-widened c.args.self.now.width c.args.form.now narrow) in
    rw zero (sym (no_multiple (total c.args.self.now) (widen_to c.args.self.now.width c.args.form.now) long))

pub returns-in_err-add_parts-clause-listed : goal.returns-in_err-add_parts-clause-listed
returns-in_err-add_parts-clause-listed c =
    let part : IsPartSum c.args.self.now = search rules in
    let places : c.split_at.result.0.now ≡ take (length c.args.form.now - 1) c.args.form.now = search rules in
    let front : c.split_at-2.result.0.now ≡ take c.trimmed_len.result c.split_at.result.0.now = search rules in
    let last : get_or c.split_at.result.1.now 0 (pos 0) ≡ entry c.args.form.now (length c.args.form.now - 1) = grind (arith, common_steps) in
    let m = to_z-of_z w128 c.args.m c.ranges.m in
    let u : to_z w128 (of_z w128 (get_or c.split_at.result.1.now 0 (pos 0))) ≡ get_or c.split_at.result.1.now 0 (pos 0) = search rules in
    let over = rw (m, u) at (c.in_err-add_parts.ensures.listed refl) in
    refused is_form_overflow c.from_residual-in_err-add_parts.result (plus_term_listed (total c.args.self.now) c.args.m (widen_to c.args.self.now.width c.args.form.now)) c.from_residual-in_err-add_parts.ensures.0
    (narrow_listed c.args.self.now c.reach.new.self c.args.m c.args.form.now c.split_at.result.0.now c.split_at-2.result.0.now c.trimmed_len.result (get_or c.split_at.result.1.now 0 (pos 0)) part c.requires.form.some c.requires.within c.in_ok-reach.ensures.ok places c.trimmed_len.ensures.within c.trimmed_len.ensures.zeros front last ∙ over)

pub returns-clause-listed : goal.returns-clause-listed
returns-clause-listed c =
    let part : IsPartSum c.args.self.now = search rules in
    let places : c.split_at.result.0.now ≡ take (length c.args.form.now - 1) c.args.form.now = search rules in
    let front : c.split_at-2.result.0.now ≡ take c.trimmed_len.result c.split_at.result.0.now = search rules in
    let last : get_or c.split_at.result.1.now 0 (pos 0) ≡ entry c.args.form.now (length c.args.form.now - 1) = grind (arith, common_steps) in
    let m = to_z-of_z w128 c.args.m c.ranges.m in
    let u : to_z w128 (of_z w128 (get_or c.split_at.result.1.now 0 (pos 0))) ≡ get_or c.split_at.result.1.now 0 (pos 0) = search rules in
    let fine = rw (m, u) at c.in_ok-add_parts.ensures.listed in
    narrow_listed c.args.self.now c.reach.new.self c.args.m c.args.form.now c.split_at.result.0.now c.split_at-2.result.0.now c.trimmed_len.result (get_or c.split_at.result.1.now 0 (pos 0)) part c.requires.form.some c.requires.within c.in_ok-reach.ensures.ok places c.trimmed_len.ensures.within c.trimmed_len.ensures.zeros front last ∙ fine

pub returns-clause-ok : goal.returns-clause-ok
returns-clause-ok c =
    let part : IsPartSum c.args.self.now = search rules in
    let places : c.split_at.result.0.now ≡ take (length c.args.form.now - 1) c.args.form.now = search rules in
    let front : c.split_at-2.result.0.now ≡ take c.trimmed_len.result c.split_at.result.0.now = search rules in
    let last : get_or c.split_at.result.1.now 0 (pos 0) ≡ entry c.args.form.now (length c.args.form.now - 1) = grind (arith, common_steps) in
    let m = to_z-of_z w128 c.args.m c.ranges.m in
    let u : to_z w128 (of_z w128 (get_or c.split_at.result.1.now 0 (pos 0))) ≡ get_or c.split_at.result.1.now 0 (pos 0) = search rules in
    let now = rw (m, u) at c.in_ok-add_parts.ensures.ok in
    narrow_added c.args.self.now c.reach.new.self c.args.m c.args.form.now c.split_at.result.0.now c.split_at-2.result.0.now c.trimmed_len.result (get_or c.split_at.result.1.now 0 (pos 0)) part c.requires.form.some c.requires.within c.in_ok-reach.ensures.ok places c.trimmed_len.ensures.within c.trimmed_len.ensures.zeros front last c.add_parts.new.self now
