use Rattle.lane_questions.proofs.Words.{◌≡◌, ◌∙◌, ap, ap₂, pos, ◌-ℤ◌, ℤ, List, to_z, of_z, w32, neg_ℤ, slice_set, negate, constant, entry, entry-negate}
use Rattle.lane_questions.proofs.FormLanes.{small_first, norm_opposite, less_fits, less_held, less_narrow}
use Rattle.lane_questions.proofs.SignsByPoints.{opposite_lanes}
use Rattle.lane_questions.proofs.kept.opposite.Goals as goal

pub overflow_sub-constant : goal.overflow_sub-constant
overflow_sub-constant c =
    let negated : c.get-constant.result ≡ entry (negate c.args.form) 0 = c.get-constant.ensures.value ∙ ap (λ (zs : List ℤ). entry zs 0) c.minus-negated.ensures.value in
    less_fits c.get-constant.result (small_first c.args.form c.get-constant.result c.get.ensures.lanes c.requires negated)

pub with-requires-clause-narrow : goal.with-requires-clause-narrow
with-requires-clause-narrow c =
    let negated : c.get-constant.result ≡ entry (negate c.args.form) 0 = c.get-constant.ensures.value ∙ ap (λ (zs : List ℤ). entry zs 0) c.minus-negated.ensures.value in
    less_narrow c.get-constant.result (small_first c.args.form c.get-constant.result c.get.ensures.lanes c.requires negated)

pub returns-clause-value : goal.returns-clause-value
returns-clause-value c = λ form some is.
    let negated = c.minus-negated.ensures.value ∙ ap negate is in
    let opposed : c.get-constant.result ≡ neg_ℤ (constant form) = c.get-constant.ensures.value ∙ ap (λ (zs : List ℤ). entry zs 0) negated in
    let first : c.get-constant.result ≡ entry (negate c.args.form) 0 = c.get-constant.ensures.value ∙ ap (λ (zs : List ℤ). entry zs 0) c.minus-negated.ensures.value in
    let less = less_held c.get-constant.result (small_first c.args.form c.get-constant.result c.get.ensures.lanes c.requires first) in
    c.with.ensures.value
    ∙ ap₂ (λ (zs : List ℤ) (z : ℤ). slice_set zs 0 z) negated (less ∙ ap (λ (z : ℤ). z -ℤ pos 1) opposed)
    ∙ opposite_lanes form some

pub returns-clause-within : goal.returns-clause-within
returns-clause-within c =
    let negated : c.get-constant.result ≡ entry (negate c.args.form) 0 = c.get-constant.ensures.value ∙ ap (λ (zs : List ℤ). entry zs 0) c.minus-negated.ensures.value in
    let less = less_held c.get-constant.result (small_first c.args.form c.get-constant.result c.get.ensures.lanes c.requires negated) in
    let constant = less ∙ ap (λ (z : ℤ). z -ℤ pos 1) (negated ∙ entry-negate c.args.form 0) in
    let made = c.with.ensures.value ∙ ap (λ (zs : List ℤ). slice_set zs 0 (to_z w32 (of_z w32 (to_z w32 (of_z w32 c.get-constant.result) -ℤ pos 1)))) c.minus-negated.ensures.value in
    record { lanes = c.with.ensures.lanes; norm = norm_opposite c.args.form c.with.result _ c.get.ensures.lanes constant made }
