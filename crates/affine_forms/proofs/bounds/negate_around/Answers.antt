use Rattle.affine_forms.proofs.Words.{rules, All-set, Fits}
use Rattle.affine_forms.proofs.bounds.negate_around.Goals as goal

pub returns-clause-fits : goal.returns-clause-fits
returns-clause-fits c = All-set Fits _ _ _ (search rules) c.negate_all.ensures.fits
