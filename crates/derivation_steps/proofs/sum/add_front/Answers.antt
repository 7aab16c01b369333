use Rattle.derivation_steps.proofs.Words.{◌≡◌, refl, sym, subst, ℤ, List, rules, to_z-of_z, w128, take, drop, length, All, Fits, IsFalse, IsTrue, all_fit, plus_term_listed, All-append, All-take, All-drop, refused, is_overflow}
use Rattle.derivation_steps.proofs.sum.add_front.Goals as goal

pub returns-in_err-add_multiple-clause-listed : goal.returns-in_err-add_multiple-clause-listed
returns-in_err-add_multiple-clause-listed c =
    let m = to_z-of_z w128 c.args.m c.ranges.m in
    let head : c.split_at_mut-head.result.0.now ≡ take (length c.args.c.now) c.args.sum.now.items = search rules in
    let over : IsFalse (all_fit (plus_term_listed c.split_at_mut-head.result.0.now c.args.m c.args.c.now)) = rw m at (c.in_err-add_multiple.ensures.listed refl) in
    refused is_overflow c.from_residual.result (plus_term_listed (take (length c.args.c.now) c.args.sum.now.items) c.args.m c.args.c.now) c.from_residual.ensures.0 (subst (λ (l : List ℤ). IsFalse (all_fit (plus_term_listed l c.args.m c.args.c.now))) head over)

pub returns-in_err-add_multiple-clause-fits : goal.returns-in_err-add_multiple-clause-fits
returns-in_err-add_multiple-clause-fits c =
    let back : c.split_at_mut-head.result.1.now ≡ drop (length c.args.c.now) c.args.sum.now.items = search rules in
    All-take Fits _ _ (All-append Fits _ _ (All-append Fits _ _ c.add_multiple.ensures.fits (subst (All Fits) (sym back) (All-drop Fits _ _ c.requires.fits))) (All-drop Fits _ _ c.requires.fits))

pub returns-clause-fits : goal.returns-clause-fits
returns-clause-fits c =
    let back : c.split_at_mut-head.result.1.now ≡ drop (length c.args.c.now) c.args.sum.now.items = search rules in
    All-take Fits _ _ (All-append Fits _ _ (All-append Fits _ _ c.add_multiple.ensures.fits (subst (All Fits) (sym back) (All-drop Fits _ _ c.requires.fits))) (All-drop Fits _ _ c.requires.fits))

pub returns-clause-listed : goal.returns-clause-listed
returns-clause-listed c =
    let m = to_z-of_z w128 c.args.m c.ranges.m in
    let head : c.split_at_mut-head.result.0.now ≡ take (length c.args.c.now) c.args.sum.now.items = search rules in
    let fit : IsTrue (all_fit (plus_term_listed c.split_at_mut-head.result.0.now c.args.m c.args.c.now)) = rw m at c.in_ok-add_multiple.ensures.listed in
    subst (λ (l : List ℤ). IsTrue (all_fit (plus_term_listed l c.args.m c.args.c.now))) head fit
