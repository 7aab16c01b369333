use Rattle.derivation_steps.proofs.Words.{rules}
use Rattle.affine_forms.proofs.Values.{product_refused, sum_refused, both_made}
use Rattle.derivation_steps.proofs.sum.long_sum.Goals as goal

pub returns-in_err-times-clause-listed : goal.returns-in_err-times-clause-listed
returns-in_err-times-clause-listed c = product_refused c.args.sum c.args.m c.args.c _ c.from_residual.ensures.0 (search rules)

pub returns-in_err-next-clause-listed : goal.returns-in_err-next-clause-listed
returns-in_err-next-clause-listed c =
    sum_refused c.args.sum c.args.m c.args.c _ c.from_residual-in_err-next.ensures.0 (search rules) (search rules)

pub returns-clause-listed : goal.returns-clause-listed
returns-clause-listed c = both_made c.args.sum c.args.m c.args.c (search rules) (search rules)
