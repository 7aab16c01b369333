use Rattle.std.proofs.Common.{append_assoc}
use Rattle.std.specs.Prelude.{◌+ℤ◌}
use Rattle.refutation_steps.proofs.Words.{rules, ◌≡◌, ◌∙◌, ap, sym, List, [], ◌∷◌, ◌++◌, ℤ, pos, length, indices, Trace}
use Rattle.refutation_steps.proofs.trace.Trace.push_row.Goals as goal

pub returns : goal.returns
returns c =
    let t = c.self.inside in
    let front = t.places.items ++ indices 0 t.forms in
    let made : c.push.new.self.items ≡ t.cuts.items ++ c.args.self.now.next ∷ [] = search rules in
    ap (λ (X : List ℤ). record { rows = front ++ X; columns = t.columns.items; next = t.first +ℤ pos (length t.steps); steps = t.steps }) made
    ∙ ap (λ (X : List ℤ). record { rows = X; columns = t.columns.items; next = t.first +ℤ pos (length t.steps); steps = t.steps }) (sym (append_assoc front t.cuts.items (c.args.self.now.next ∷ [])))
    ∙ ap (λ (T : Trace). record { rows = T.rows ++ c.args.self.now.next ∷ []; columns = T.columns; next = T.next; steps = T.steps }) c.self.view_is
