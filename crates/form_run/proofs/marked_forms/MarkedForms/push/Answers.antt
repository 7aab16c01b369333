use Rattle.form_run.proofs.Words.{sym, subst, NumberLists, IsMarked}
use Rattle.form_run.proofs.Marking.{marked_more}
use Rattle.form_run.proofs.marked_forms.MarkedForms.push.Goals as goal

pub invariant_of-self : goal.invariant_of-self
invariant_of-self c = subst (λ (l : NumberLists). IsMarked l c.self.inside.marks.items) (sym c.in_err-push.ensures.err) c.self.invariant

pub invariant_of-self-2 : goal.invariant_of-self-2
invariant_of-self-2 c = marked_more c.self.inside.forms c.push.new.self c.self.inside.marks.items c.args.form.now c.in_ok-push.ensures.ok c.self.invariant
