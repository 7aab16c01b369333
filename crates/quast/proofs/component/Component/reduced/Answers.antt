use Rattle.quast.proofs.Words.{◌≡◌, pos, ◌≤ℤ◌, subst, sym, arith, rules, to_z, of_z, width, Component, reduced, Fits, IsComponent}
use Rattle.std.specs.Int.{w128}
use Rattle.quast.proofs.Lists.{own-width}
use Rattle.quast.proofs.Lowest.{reduced-component}
use Rattle.quast.proofs.component.Component.reduced.Goals as goal

pub returns-clause-component : goal.returns-clause-component
returns-clause-component c =
    let made : record { den = to_z w128 (of_z w128 c.floor_div.result); form = c.divide_exact.new.self } ≡ reduced c.args.den c.args.form = search rules in
    let some : pos 1 ≤ℤ c.args.den = search rules in
    let fit : Fits c.args.den = search rules in
    let form = rw c.as_slice.ensures.value at c.as_slice.ensures.form in
    λ w wide. rw made (reduced-component w c.args.den c.args.form some fit form.fits wide)

pub invariant_of-result : goal.invariant_of-result
invariant_of-result c =
    let made : record { den = to_z w128 (of_z w128 c.floor_div.result); form = c.divide_exact.new.self } ≡ reduced c.args.den c.args.form = search rules in
    let some : pos 1 ≤ℤ c.args.den = search rules in
    let fit : Fits c.args.den = search rules in
    let form = rw c.as_slice.ensures.value at c.as_slice.ensures.form in
    subst (λ (x : Component). IsComponent (width x.form) x) (sym made) (own-width _ _ (reduced-component (width c.args.form) c.args.den c.args.form some fit form.fits (omega arith)))
