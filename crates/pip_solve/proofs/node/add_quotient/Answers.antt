use Rattle.pip_solve.proofs.Words.{rules, arith, refl, ap, List, ℤ, length, ◌≡◌, ◌∙◌, ◌+◌, ◌++◌, ◌∷◌, [], length-append, size, quotient_at, length-bounds}
use Rattle.pip_model.specs.Cuts as cuts
use Rattle.pip_solve.proofs.Paths.{quotient_at-added, two_more}
use Rattle.pip_solve.proofs.node.add_quotient.Goals as goal

pub add-requires-2-clause-narrow : goal.add-requires-2-clause-narrow
add-requires-2-clause-narrow c =
    let told : c.in_ok-lower.lower ≡ cuts.lower_bound (c.in_ok-place.place + 1) c.in_ok-place.place (quotient_at c.add.new.self c.in_ok-place.place) = search rules in
    let place : c.in_ok-place.place ≡ size c.args.path.now.quotients = search rules in
    let now : c.add.new.self ≡ record c.args.path.now.quotients { quotients = c.args.path.now.quotients.quotients ++ c.args.key ∷ [] } = search rules in
    let last = quotient_at-added c.args.path.now.quotients c.args.key in
    let lower : c.in_ok-lower.lower ≡ cuts.lower_bound (size c.args.path.now.quotients + 1) (size c.args.path.now.quotients) c.args.key = cc in
    let long = length-bounds (size c.args.path.now.quotients + 1) (size c.args.path.now.quotients) c.args.key (omega (arith, c.requires.quotient.wide)) (omega (arith, c.requires.quotient.wide)) (omega arith) in
    let width = c.widen.ensures.width in
    rw lower (omega (arith, long.0, c.requires.scope, c.widen.ensures.width))

pub add-requires-3-clause-narrow : goal.add-requires-3-clause-narrow
add-requires-3-clause-narrow c =
    let told : c.in_ok-lower.upper ≡ cuts.upper_bound (c.in_ok-place.place + 1) c.in_ok-place.place (quotient_at c.add.new.self c.in_ok-place.place) = search rules in
    let place : c.in_ok-place.place ≡ size c.args.path.now.quotients = search rules in
    let now : c.add.new.self ≡ record c.args.path.now.quotients { quotients = c.args.path.now.quotients.quotients ++ c.args.key ∷ [] } = search rules in
    let last = quotient_at-added c.args.path.now.quotients c.args.key in
    let upper : c.in_ok-lower.upper ≡ cuts.upper_bound (size c.args.path.now.quotients + 1) (size c.args.path.now.quotients) c.args.key = cc in
    let long = length-bounds (size c.args.path.now.quotients + 1) (size c.args.path.now.quotients) c.args.key (omega (arith, c.requires.quotient.wide)) (omega (arith, c.requires.quotient.wide)) (omega arith) in
    rw upper (omega (arith, long.1, c.requires.scope, c.widen.ensures.width, c.add-2.ensures.width))

pub returns : goal.returns
returns c =
    let told : c.in_ok-lower.lower ≡ cuts.lower_bound (c.in_ok-place.place + 1) c.in_ok-place.place (quotient_at c.add.new.self c.in_ok-place.place) = search rules in
    let tells : c.in_ok-lower.upper ≡ cuts.upper_bound (c.in_ok-place.place + 1) c.in_ok-place.place (quotient_at c.add.new.self c.in_ok-place.place) = search rules in
    let place : c.in_ok-place.place ≡ size c.args.path.now.quotients = search rules in
    let now : c.add.new.self ≡ record c.args.path.now.quotients { quotients = c.args.path.now.quotients.quotients ++ c.args.key ∷ [] } = search rules in
    let last = quotient_at-added c.args.path.now.quotients c.args.key in
    let lower : c.in_ok-lower.lower ≡ cuts.lower_bound (size c.args.path.now.quotients + 1) (size c.args.path.now.quotients) c.args.key = cc in
    let upper : c.in_ok-lower.upper ≡ cuts.upper_bound (size c.args.path.now.quotients + 1) (size c.args.path.now.quotients) c.args.key = cc in
    let both : c.add-3.new.self.forms ≡ c.args.path.now.context.forms ++ c.in_ok-lower.lower ∷ [] ++ c.in_ok-lower.upper ∷ [] = search rules in
    let forms = both ∙ two_more c.args.path.now.context.forms c.in_ok-lower.lower c.in_ok-lower.upper in
    let more = ap (λ (fs : List (List ℤ)). length fs) forms in
    let long = length-append c.args.path.now.context.forms (c.in_ok-lower.lower ∷ c.in_ok-lower.upper ∷ []) in
    record {
      integer = refl;
      depth = refl;
      width = omega (arith, c.widen.ensures.width, c.add-2.ensures.width, c.add-3.ensures.width);
      forms = forms ∙ cc;
      room = omega (arith, more, long, c.widen.ensures.spare, c.add-2.ensures.spare, c.add-3.ensures.spare);
      quotients = now;
    }
