use Rattle.leaf_check.proofs.Words.{◌≡◌, ◌∙◌, sym, rules, pos, w128, to_z-of_z, no_multiple, no_multiple_listed}
use Rattle.quast.proofs.Conditions.{all_fit_from}
use Rattle.leaf_check.proofs.goals.add_component.Goals as goal

pub returns-then-a-eq0-clause-listed : goal.returns-then-a-eq0-clause-listed
returns-then-a-eq0-clause-listed c =
    let zero : c.args.a ≡ pos 0 = search rules in
    rw zero (no_multiple_listed c.args.sum.now c.args.component.now.form (sym c.requires.width) (all_fit_from c.args.sum.now c.requires.fits))

pub returns-then-a-eq0-clause-ok : goal.returns-then-a-eq0-clause-ok
returns-then-a-eq0-clause-ok c =
    let zero : c.args.a ≡ pos 0 = search rules in
    rw zero (sym (no_multiple c.args.sum.now c.args.component.now.form (sym c.requires.width)))

pub returns-clause-listed : goal.returns-clause-listed
returns-clause-listed c =
    rw (to_z-of_z w128 c.args.a (search rules), (c.as_slice.ensures.value ∙ c.form.ensures)) at c.add_multiple.ensures.listed

pub returns-clause-ok : goal.returns-clause-ok
returns-clause-ok c = rw (to_z-of_z w128 c.args.a (search rules), (c.as_slice.ensures.value ∙ c.form.ensures)) at c.add_multiple.ensures.ok
