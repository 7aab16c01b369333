use Rattle.leaf_check.proofs.Words.{rules, negsuc, Fits}
use Rattle.std.proofs.lemmas.List.Elements.{All-set}
use Rattle.affine_forms.proofs.QuotientForms.{plus_made, constant_refused, constant_fits}
use Rattle.leaf_check.proofs.goals.less_one.Goals as goal

pub returns-in_err-constant-clause-listed : goal.returns-in_err-constant-clause-listed
returns-in_err-constant-clause-listed c =
    constant_refused _ (negsuc 0) _ c.requires.form.some c.from_residual.ensures.0 (search rules)

pub returns-in_err-constant-clause-form : goal.returns-in_err-constant-clause-form
returns-in_err-constant-clause-form c = c.requires.form

pub returns-clause-listed : goal.returns-clause-listed
returns-clause-listed c = constant_fits _ (negsuc 0) c.requires.form.some (search rules)

pub returns-clause-ok : goal.returns-clause-ok
returns-clause-ok c = plus_made _ (negsuc 0) _ c.requires.form.some (search rules)

pub returns-clause-form : goal.returns-clause-form
returns-clause-form c = record { some = search rules; fits = All-set Fits _ _ _ (search rules) c.requires.form.fits }
