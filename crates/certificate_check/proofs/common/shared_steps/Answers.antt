use Rattle.certificate_check.proofs.Words.{◌≡◌, ◌+◌, ◌-◌, sym, ◌∙◌, ap, ℕ, drop, map, get_or, arith, rules, shareable, common_front, shared_by, sized}
use Rattle.certificate_check.proofs.Commons.{shared_step}
use Rattle.certificate_check.proofs.common.shared_steps.Goals as goal

pub loop-r-preserved : goal.loop-r-preserved
loop-r-preserved c =
    let k = c.loop-r.r - 1 in
    let e : k + 1 ≡ c.loop-r.r = omega arith in
    let x = c.index-refutations-r-in-loop-r.result in
    let own : c.in_ok-own.own.items ≡ shareable c.args.leaf (get_or c.args.sizes.now k 0) (get_or c.args.refutations.now k x) = search rules in
    let old = c.loop-r.invariant.0 ∙ ap (λ (i : ℕ). shared_by c.args.leaf (drop i (map sized c.args.sizes.now)) (drop i c.args.refutations.now)) (sym e) in
    let now : c.truncate.new.self.items ≡ common_front c.in_ok-own.own.items c.loop-r.shared.items = search rules in
    (shared_step c.args.leaf c.args.sizes.now c.args.refutations.now k 0 x c.in_ok-own.own.items c.loop-r.shared.items c.truncate.new.self.items (omega (arith, c.requires)) c.requires own old now, omega arith)
