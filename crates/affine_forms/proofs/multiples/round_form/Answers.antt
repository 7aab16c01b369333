use Rattle.affine_forms.proofs.Words.{arith, rules, refl, map, ◌∙◌, ◌-ℤ◌, to_z-of_z, common_steps, All-set, IsFalse, entry, all_fit, Fits, raised, ◌∷◌, fits, []}
use Rattle.std.proofs.lemmas.List.Folds.{list_all-append}
use Rattle.affine_forms.proofs.Raising.{rounded_refused}
use Rattle.affine_forms.proofs.multiples.round_form.Goals as goal

pub returns-in_err-check_raised-clause-listed : goal.returns-in_err-check_raised-clause-listed
returns-in_err-check_raised-clause-listed c =
    let d = c.ranges.d in
    let told = c.in_err-check_raised.ensures.listed refl in
    let refused : IsFalse (all_fit (map (raised c.args.d) c.args.entries.now)) = simp to_z-of_z at told in
    let whole = rounded_refused (map (raised c.args.d) c.args.entries.now) (raised c.args.d (entry c.args.entries.now c.args.q) -ℤ c.args.d) refused in
    search (rules, whole)

pub returns-in_err-before-clause-listed : goal.returns-in_err-before-clause-listed
returns-in_err-before-clause-listed c =
    let parts = list_all-append fits (map (raised c.args.d) c.args.entries.now) ((raised c.args.d (entry c.args.entries.now c.args.q) -ℤ c.args.d) ∷ []) in
    grind (arith, common_steps, parts)

pub returns-clause-listed : goal.returns-clause-listed
returns-clause-listed c = list_all-append fits (map (raised c.args.d) c.args.entries.now) ((raised c.args.d (entry c.args.entries.now c.args.q) -ℤ c.args.d) ∷ []) ∙ search rules

pub returns-clause-fits : goal.returns-clause-fits
returns-clause-fits c = All-set Fits _ _ _ (search rules) c.raise_all.ensures.fits
