use Rattle.refuter.proofs.Words.{sym}
use Rattle.refuter.proofs.FurtherForms.{narrow-same, same-context}
use Rattle.refuter.proofs.narrowed.Narrowed.narrow.Goals as goal

pub returns-then-are_over : goal.returns-then-are_over
returns-then-are_over c =
    let over = c.are_over.ensures c.if-are_over.true in
    record {
      value = sym (narrow-same c.args.width c.args.forms.now c.requires over);
      context = same-context c.args.width c.args.forms.now c.requires over;
    }
