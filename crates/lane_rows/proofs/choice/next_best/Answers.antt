use Rattle.lane_rows.proofs.Words.{rules, ◌≡◌, ◌∙◌, ap, sym, arith, ◌<◌, ◌+◌, pos, length, ℕ, List, true, false, Some, entry, is_positive, choice, candidates_from, row_over, numbers_of, undivided_in}
use Rattle.row_laws.proofs.Choosing.{candidate_more, candidate_less, choice_step}
use Rattle.lane_rows.proofs.Choosing.{sign_there, front_long}
use Rattle.lane_rows.proofs.choice.next_best.Goals as goal

pub returns-then-not-is_above-clause-value : goal.returns-then-not-is_above-clause-value
returns-then-not-is_above-clause-value c =
    let u = undivided_in c.args.n (pos 1) c.args.n c.args.rows.now in
    let p = row_over c.args.n (pos 1) (numbers_of c.args.n c.args.p.now) in
    let wide : c.args.n < length c.args.p.now = omega (arith, c.requires.pivot.long, c.requires.few) in
    let h = front_long c.args.n c.args.k c.args.p.now wide c.requires.k in
    let e : is_positive (entry c.args.p.now (c.args.k + 1)) ≡ false = search rules in
    ap (λ (ks : List ℕ). choice u p c.args.best ks) (sym (candidate_less p c.args.k h (sign_there c.args.n c.args.k c.args.p.now wide c.requires.k ∙ e)))

pub returns-clause-value : goal.returns-clause-value
returns-clause-value c =
    let u = undivided_in c.args.n (pos 1) c.args.n c.args.rows.now in
    let p = row_over c.args.n (pos 1) (numbers_of c.args.n c.args.p.now) in
    let ks = candidates_from (row_over c.args.n (pos 1) (numbers_of c.args.n c.args.p.now)) (c.args.k + 1) in
    let wide : c.args.n < length c.args.p.now = omega (arith, c.requires.pivot.long, c.requires.few) in
    let h = front_long c.args.n c.args.k c.args.p.now wide c.requires.k in
    let e : is_positive (entry c.args.p.now (c.args.k + 1)) ≡ true = search rules in
    ap (λ (b : ℕ). choice u p (Some b) ks) c.better_of.ensures.value
    ∙ sym (choice_step u p c.args.best c.args.k ks)
    ∙ ap (λ (js : List ℕ). choice u p c.args.best js) (sym (candidate_more p c.args.k h (sign_there c.args.n c.args.k c.args.p.now wide c.requires.k ∙ e)))
