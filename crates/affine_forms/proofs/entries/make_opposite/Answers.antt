use Rattle.affine_forms.proofs.Words.{arith, rules, ◌-◌, length, to_z-of_z, common_steps, All-set, Fits}
use Rattle.affine_forms.proofs.Opposites.{opposite_set}
use Rattle.affine_forms.proofs.entries.make_opposite.Goals as goal

pub returns-clause-ok : goal.returns-clause-ok
returns-clause-ok c =
    let made = opposite_set c.args.entries.now (length c.args.entries.now - 1) (omega (arith, c.requires.some)) in
    grind (arith, common_steps, to_z-of_z, made)

pub returns-clause-form : goal.returns-clause-form
returns-clause-form c = record { some = search rules; fits = All-set Fits _ _ _ (search rules) c.negate_all.ensures.fits }
