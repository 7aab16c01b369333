use Rattle.node_rows.proofs.Words.{rules, ◌≡◌, ◌∙◌, all_rows}
use Rattle.node_rows.proofs.Pivoting.{same_rows}
use Rattle.node_rows.proofs.node_rows.NodeRows.try_clone.Goals as goal

pub invariant_of-result : goal.invariant_of-result
invariant_of-result c =
    let made : c.in_ok-made.made ≡ c.self.inside.made = search rules in
    let forms : c.in_ok-forms.forms ≡ c.self.inside.forms = search rules in
    rw (made, forms) ((λ k d lt. c.in_ok-basis.ensures.read _ _ (c.self.invariant.0 k d lt)), c.self.invariant.1)

pub returns : goal.returns
returns c =
    let made : c.in_ok-made.made ≡ c.self.inside.made = search rules in
    let forms : c.in_ok-forms.forms ≡ c.self.inside.forms = search rules in
    let view : all_rows c.self.inside.made c.self.inside.basis c.self.inside.forms ≡ c.args.self.now = search rules in
    same_rows c.in_ok-made.made c.self.inside.made c.in_ok-basis.basis c.self.inside.basis c.in_ok-forms.forms c.self.inside.forms made c.in_ok-basis.ensures.scale forms ∙ view
