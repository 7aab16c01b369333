use Rattle.tableau_row.proofs.Words.{rules, ap, sym, ◌∙◌, arith, ◌≡◌, ◌*ℤ◌, subst, take, drop, length, combine, fits, IsTrue, All, Fits, IsShort, row_of, row_of_numbers}
use Rattle.tableau_row.proofs.Found.{factors_held, combine_held, parts_are, made_by}
use Rattle.tableau_row.proofs.row.substitute_short.Goals as goal

pub short_product-made-requires : goal.short_product-made-requires
short_product-made-requires c = record { a = search (rules, c.requires.short.second.den); b = search (rules, c.args.step.short.first) }

pub short_product-entry-requires : goal.short_product-entry-requires
short_product-entry-requires c = record { a = search (rules, c.args.step.short.second); b = search (rules, c.requires.short.first.den) }

pub combine_short-coefs_short-requires-clause-factors : goal.combine_short-coefs_short-requires-clause-factors
combine_short-coefs_short-requires-clause-factors c = factors_held c.args.step c.args.step.short

pub combine_short-coefs_short-requires-clause-lists : goal.combine_short-coefs_short-requires-clause-lists
combine_short-coefs_short-requires-clause-lists c =
    let e = c.split_at_mut-coefs.ensures.front ∙ ap (take (length c.args.p.now.coefs.now)) c.split_at_mut-den.ensures.back in
    record { lengths = ap length e ∙ c.requires.step.coefs; first = subst (All IsShort) (sym e) c.requires.short.second.coefs; second = c.requires.short.first.coefs }

pub combine_short-constant_short-requires-clause-factors : goal.combine_short-constant_short-requires-clause-factors
combine_short-constant_short-requires-clause-factors c = factors_held c.args.step c.args.step.short

pub combine_short-constant_short-requires-clause-lists : goal.combine_short-constant_short-requires-clause-lists
combine_short-constant_short-requires-clause-lists c =
    let e = c.split_at_mut-coefs.ensures.back ∙ ap (drop (length c.args.p.now.coefs.now)) c.split_at_mut-den.ensures.back in
    record { lengths = ap length e ∙ c.requires.step.constant; first = subst (All IsShort) (sym e) c.requires.short.second.constant; second = c.requires.short.first.constant }

pub returns-clause-value : goal.returns-clause-value
returns-clause-value c =
    let zs = c.args.numbers.now in
    let p = row_of c.args.p.now in
    let s = c.args.step in
    let coefs : c.combine_short-coefs_short.new.r ≡ combine s.row (take (length p.coefs) (drop 1 zs)) s.pivot p.coefs = combine_held s _ _ _ _ s.short c.combine_short-coefs_short.ensures.value (c.split_at_mut-coefs.ensures.front ∙ ap (take (length c.args.p.now.coefs.now)) c.split_at_mut-den.ensures.back) in
    let constant : c.combine_short-constant_short.new.r ≡ combine s.row (drop (length p.coefs) (drop 1 zs)) s.pivot p.constant = combine_held s _ _ _ _ s.short c.combine_short-constant_short.ensures.value (c.split_at_mut-coefs.ensures.back ∙ ap (drop (length c.args.p.now.coefs.now)) c.split_at_mut-den.ensures.back) in
    parts_are (length p.coefs) c.args.c p s.row s.pivot _ _ zs _ _ _ (omega (arith, c.requires.length)) (search rules) (search rules) (search rules) coefs constant

pub returns-clause-made : goal.returns-clause-made
returns-clause-made c =
    let zs = c.args.numbers.now in
    let p = row_of c.args.p.now in
    let r = row_of_numbers (length p.coefs) zs in
    let s = c.args.step in
    let den : c.short_product-made.result ≡ r.den *ℤ s.row = search rules in
    let e : c.short_product-entry.result ≡ s.pivot *ℤ p.den = search rules in
    let coefs : c.combine_short-coefs_short.new.r ≡ combine s.row r.coefs s.pivot p.coefs = combine_held s _ _ _ _ s.short c.combine_short-coefs_short.ensures.value (c.split_at_mut-coefs.ensures.front ∙ ap (take (length c.args.p.now.coefs.now)) c.split_at_mut-den.ensures.back) in
    let constant : c.combine_short-constant_short.new.r ≡ combine s.row r.constant s.pivot p.constant = combine_held s _ _ _ _ s.short c.combine_short-constant_short.ensures.value (c.split_at_mut-coefs.ensures.back ∙ ap (drop (length c.args.p.now.coefs.now)) c.split_at_mut-den.ensures.back) in
    let den_short : IsTrue c.both.result → IsShort c.short_product-made.result = λ all. search (rules, c.with_entry-2.ensures.entry (c.both.ensures.second all)) in
    let e_short : IsTrue c.both.result → IsShort c.short_product-entry.result = λ all. search (rules, c.with_entry.ensures.entry (c.both.ensures.first all)) in
    made_by p c.args.c r s.row s.pivot _ c.requires.step s.positive
    (subst (λ z. IsTrue (fits z)) (sym c.short_product-made.ensures.value ∙ den) c.short_product-made.ensures.fits)
    (subst (λ z. IsTrue (fits z)) (sym c.short_product-entry.ensures.value ∙ e) c.short_product-entry.ensures.fits)
    (subst (All Fits) coefs c.combine_short-coefs_short.ensures.fits)
    (subst (All Fits) constant c.combine_short-constant_short.ensures.fits)
    (λ all. subst IsShort den (den_short all))
    (λ all. subst IsShort e (e_short all))
    (λ all. subst (All IsShort) coefs (c.combine_short-coefs_short.ensures.short (c.with_entry.ensures.so_far (c.both.ensures.first all))))
    (λ all. subst (All IsShort) constant (c.combine_short-constant_short.ensures.short (c.with_entry-2.ensures.so_far (c.both.ensures.second all))))
