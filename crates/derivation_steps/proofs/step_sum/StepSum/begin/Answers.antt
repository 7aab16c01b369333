use Rattle.derivation_steps.proofs.Words.{◌≡◌, ◌-◌, ap, w128, to_z, of_z, PartSum, get_or, arith, rules, common_steps, pos, length, take, entry}
use Rattle.derivation_steps.proofs.Spreading.{begun}
use Rattle.derivation_steps.proofs.step_sum.StepSum.begin.Goals as goal

pub returns-clause-ok : goal.returns-clause-ok
returns-clause-ok c =
    let places : c.split_at.result.0.now ≡ take (length c.args.form.now - 1) c.args.form.now = search rules in
    let front : c.extend_from_slice.new.self.items ≡ take c.trimmed_len.result c.split_at.result.0.now = search rules in
    let last : get_or c.split_at.result.1.now 0 (pos 0) ≡ entry c.args.form.now (length c.args.form.now - 1) = grind (arith, common_steps) in
    let wide : c.self.inside.width ≡ c.args.self.now.width = ap (λ (s : PartSum). s.width) c.self.view_is in
    let u : to_z w128 (of_z w128 (get_or c.split_at.result.1.now 0 (pos 0))) ≡ get_or c.split_at.result.1.now 0 (pos 0) = search rules in
    rw (wide, u) (begun c.args.self.now.width c.args.form.now c.split_at.result.0.now c.extend_from_slice.new.self.items c.trimmed_len.result (get_or c.split_at.result.1.now 0 (pos 0)) c.requires.form.some c.requires.within places c.trimmed_len.ensures.within c.trimmed_len.ensures.zeros front last)
