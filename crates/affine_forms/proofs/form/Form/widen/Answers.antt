use Rattle.affine_forms.proofs.Words.{rules, ◌-◌}
use Rattle.affine_forms.proofs.Places.{widen_made, widen_form}
use Rattle.affine_forms.proofs.form.Form.widen.Goals as goal

pub returns-clause-ok : goal.returns-clause-ok
returns-clause-ok c =
    widen_made c.args.self.now c.resize.new.self.items c.swap.new.self.items c.in-Some.entries (c.len-width.result - 1) c.args.n
    (search rules) (search rules) (search rules) (search rules) (search rules)

pub invariant_of-self-2 : goal.invariant_of-self-2
invariant_of-self-2 c = rw (returns-clause-ok c) (widen_form c.args.n c.args.self.now (search rules))
