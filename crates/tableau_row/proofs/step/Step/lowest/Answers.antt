use Rattle.tableau_row.proofs.Words.{rules, ◌≡◌, sym, subst, pos, ◌≤ℤ◌, to_z, of_z, w64, floor_div, AreLowest, quotient_positive, lowest-divided}
use Rattle.tableau_row.proofs.step.Step.lowest.Goals as goal

pub invariant_of-result-2 : goal.invariant_of-result-2
invariant_of-result-2 c =
    let a = c.args.a in
    let d = c.short_gcd-common.result in
    let row : to_z w64 (of_z w64 c.short_floor_div.result) ≡ floor_div a d = search rules in
    let some : pos 1 ≤ℤ floor_div a d = quotient_positive a d (search rules) (search rules) in
    record { positive = subst (λ z. pos 1 ≤ℤ z) (sym row) some; short = search rules; divisor_positive = search rules; divisor_short = search rules }

pub returns-clause-lowest : goal.returns-clause-lowest
returns-clause-lowest c =
    let a = c.args.a in
    let b = c.args.b in
    let d = c.short_gcd-common.result in
    let row : to_z w64 (of_z w64 c.short_floor_div.result) ≡ floor_div a d = search rules in
    let pivot : to_z w64 (of_z w64 c.short_floor_div-2.result) ≡ floor_div b d = search rules in
    subst (λ z. AreLowest a b z (to_z w64 (of_z w64 c.short_floor_div-2.result))) (sym row)
    (subst (λ z. AreLowest a b (floor_div a d) z) (sym pivot) (lowest-divided a b d (search rules) (search rules)))
