use Rattle.derivation_steps.proofs.Words.{◌≡◌, pos, rules}
use Rattle.affine_forms.proofs.Values.{both_made}
use Rattle.derivation_steps.proofs.sum.add_product.Goals as goal

pub returns-then-is_summand-2-clause-listed : goal.returns-then-is_summand-2-clause-listed
returns-then-is_summand-2-clause-listed c =
    let one : c.args.m ≡ pos 1 = search rules in
    rw one (both_made c.args.sum (pos 1) c.args.c (search rules) (search rules))

pub returns-then-is_summand-2-clause-value : goal.returns-then-is_summand-2-clause-value
returns-then-is_summand-2-clause-value c =
    let one : c.args.m ≡ pos 1 = search rules in
    rw one (search rules)
