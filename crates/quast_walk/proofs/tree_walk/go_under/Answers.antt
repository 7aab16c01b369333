use Rattle.quast_walk.proofs.Words.{◌≡◌, rules, IsTrue, IsFalse, to_z, of_z, w128, err_from_is_err_and, all_fit, below_listed, is_form_overflow, visit_of}
use Rattle.quast_walk.proofs.Walking.{unfit_stops, quotient}
use Rattle.quast_walk.proofs.tree_walk.go_under.Goals as goal

pub returns-in_err-go_below-clause-gives : goal.returns-in_err-go_below-clause-gives
returns-in_err-go_below-clause-gives g c =
    let den : to_z w128 (of_z w128 c.args.parameter.now.den) ≡ c.args.parameter.now.den = search rules in
    let zs = below_listed (visit_of c.args.context.now c.args.depth) (quotient c.args.parameter.now.form.now c.args.parameter.now.den) in
    let unfit : IsTrue (is_form_overflow c.in_err-go_below.field-0.0) → IsFalse (all_fit zs) = rw (den, c.sign.ensures.kept.width) at (c.in_err-go_below.ensures.listed c.args.depth) in
    let p = err_from_is_err_and c.from_residual-in_err-go_below.result c.from_residual-in_err-go_below.ensures.1 in
    rw (p.1, rw c.in-Plus.is at c.in_ok-sign.ensures.gives, c.in_ok-at_quotient.ensures c.args.context.now) (λ next. unfit_stops zs (λ done. next) c.sign.new.work c.in_err-go_below.field-0.0 p.0 p.2 unfit)

pub returns-clause-gives : goal.returns-clause-gives
returns-clause-gives g c = λ next.
    let den : to_z w128 (of_z w128 c.args.parameter.now.den) ≡ c.args.parameter.now.den = search rules in
    let zs = below_listed (visit_of c.args.context.now c.args.depth) (quotient c.args.parameter.now.form.now c.args.parameter.now.den) in
    let fit : IsTrue (all_fit zs) = rw (den, c.sign.ensures.kept.width) at (c.in_ok-go_below.ensures.listed c.args.depth) in
    rw (rw c.in-Plus.is at c.in_ok-sign.ensures.gives, c.in_ok-at_quotient.ensures c.args.context.now, fit)
