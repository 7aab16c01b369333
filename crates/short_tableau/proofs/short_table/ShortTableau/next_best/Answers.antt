use Rattle.short_tableau.proofs.Words.{rules, ◌∙◌, ap, sym, arith, ◌<◌, ◌+◌, length, take, ℕ, List, choice, candidates_from, row_of}
use Rattle.std.proofs.Common.{Some}
use Rattle.row_laws.proofs.Choosing.{candidate_more, candidate_less, choice_step}
use Rattle.short_tableau.proofs.short_table.ShortTableau.next_best.Goals as goal

pub returns-then-not-is_above-clause-value : goal.returns-then-not-is_above-clause-value
returns-then-not-is_above-clause-value c =
    let u = take c.args.self.now.unknowns c.args.self.now.rows in
    let p = row_of c.args.p.now in
    let h : c.args.k < length c.args.p.now.coefs.now = omega (arith, c.requires.p.row.coefs, c.requires.k) in
    ap (λ (ks : List ℕ). choice u p c.args.best ks) (sym (candidate_less p c.args.k h (search rules)))

pub returns-clause-value : goal.returns-clause-value
returns-clause-value c =
    let u = take c.args.self.now.unknowns c.args.self.now.rows in
    let p = row_of c.args.p.now in
    let ks = candidates_from (row_of c.args.p.now) (c.args.k + 1) in
    let h : c.args.k < length c.args.p.now.coefs.now = omega (arith, c.requires.p.row.coefs, c.requires.k) in
    ap (λ (b : ℕ). choice u p (Some b) ks) c.better_of.ensures.value
    ∙ sym (choice_step u p c.args.best c.args.k ks)
    ∙ ap (λ (js : List ℕ). choice u p c.args.best js) (sym (candidate_more p c.args.k h (search rules)))
