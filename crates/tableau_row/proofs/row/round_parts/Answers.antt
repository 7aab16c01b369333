use Rattle.tableau_row.proofs.Words.{rules, ◌≡◌, ◌-◌, ◌-ℤ◌, arith, refl, sym, ap, ◌∙◌, map, List, ℤ, length, slice_set, to_z-of_z, entry, all_fit, divided, raised, add, negate, width, rounding, residue_of, content, row_from, content-divided, divided_row}
use Rattle.row_laws.proofs.Rounding.{rounded_listed_is, rounded_form}
use Rattle.tableau_row.proofs.row.round_parts.Goals as goal

pub returns-in_err-round_form-clause-listed : goal.returns-in_err-round_form-clause-listed
returns-in_err-round_form-clause-listed c =
    let d = c.ranges.den in
    let told = simp to_z-of_z at c.in_err-round_form.ensures.listed refl in
    let whole = rounded_listed_is (row_from c.args.den c.args.coefs.now c.args.constant.now) c.args.q (omega (arith, c.requires.place)) in
    let refused = ap all_fit whole ∙ told in
    search (rules, refused)

pub returns-clause-listed : goal.returns-clause-listed
returns-clause-listed c =
    let d = c.ranges.den in
    let told = simp to_z-of_z at c.in_ok-round_form.ensures.listed in
    ap all_fit (rounded_listed_is (row_from c.args.den c.args.coefs.now c.args.constant.now) c.args.q (omega (arith, c.requires.place))) ∙ told

pub returns-clause-ok : goal.returns-clause-ok
returns-clause-ok c =
    let d = c.ranges.den in
    let made : c.round_form.new.entries ≡ slice_set (map (raised c.args.den) c.args.constant.now) c.args.q (raised c.args.den (entry c.args.constant.now c.args.q) -ℤ c.args.den) = search rules in
    let long = c.requires.row.constant in
    let form = rounded_form (row_from c.args.den c.args.coefs.now c.args.constant.now) (length c.args.constant.now - 1) c.args.q long (omega (arith, c.requires.place)) in
    divided_row c.args.den c.args.coefs.now c.round_form.new.entries c.gcd_with-divisor.result _ _ _ (search rules) (search rules) (search rules) (search rules)
    ∙ ap (λ (k : List ℤ). divided (row_from c.args.den c.args.coefs.now k)) (made ∙ sym form)

pub returns-clause-reduced : goal.returns-clause-reduced
returns-clause-reduced c =
    let r = row_from c.args.den c.args.coefs.now c.args.constant.now in
    ap content (returns-clause-ok c)
    ∙ content-divided (row_from c.args.den c.args.coefs.now (add r.constant (negate (rounding (width r.constant) c.args.q (residue_of r))))) c.requires.row.positive
