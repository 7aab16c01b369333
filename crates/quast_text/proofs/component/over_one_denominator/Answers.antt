use Rattle.quast_text.proofs.Words.{refl, rules}
use Rattle.quast_text.proofs.Denominators.{component_wide}
use Rattle.quast_text.proofs.component.over_one_denominator.Goals as goal

pub returns-in-Err-Overflow-clause-agrees : goal.returns-in-Err-Overflow-clause-agrees
returns-in-Err-Overflow-clause-agrees c =
    let listed = rw c.in-Err-Overflow.field-0-is at c.in-Err-Overflow.ensures.listed in
    component_wide c.args.start c.args.fractions.now _ (search rules) (listed refl)
