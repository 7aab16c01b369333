use Rattle.gomory_cut.proofs.Words.{◌≡◌, ◌∙◌, refl, ap, List, ℤ, length, length-map, rules, negate, row_at}
use Rattle.affine_forms.proofs.Bits.{held}
use Rattle.tableau.specs.Views.{row_of}
use Rattle.gomory_cut.proofs.Roundings.{constant_made, left_row, negated_whole}
use Rattle.gomory_cut.proofs.cuts.constant_cut.Goals as goal

pub push_row-requires : goal.push_row-requires
push_row-requires c =
    let v = row_of c.row-row.result in
    let row = c.row-row.ensures.row in
    let made : c.deref-2.result.now ≡ negate c.in_ok-constant.constant.items = negated_whole _ _ _ _ _ c.deref-2.ensures.value c.deref_mut.ensures.value c.deref_mut.ensures.len c.negate_all.ensures.value in
    let long : length c.deref-2.result.now ≡ length v.constant = ap (λ (xs : List ℤ). length xs) (made ∙ ap negate c.in_ok-constant.ensures.value) ∙ simp length-map refl in
    rw (held v.den row.den_fits) (left_row _ _ v c.deref.result.now c.deref-2.result.now row (search rules) long (search rules) (search rules))

pub returns-clause-ok : goal.returns-clause-ok
returns-clause-ok c =
    let negated : c.deref-2.result.now ≡ negate c.in_ok-constant.constant.items = negated_whole _ _ _ _ _ c.deref-2.ensures.value c.deref_mut.ensures.value c.deref_mut.ensures.len c.negate_all.ensures.value in
    let made = constant_made (row_at c.args.t.now.rows c.args.row) (row_of c.row-row.result) c.deref.result.now c.in_ok-constant.constant.items c.deref-2.result.now c.row-row.ensures.value (search rules) (search rules) negated in
    search (rules, made)
