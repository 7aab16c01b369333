use Rattle.std.specs.Prelude.{is_ok}
use Rattle.form_run.proofs.Words.{rules, ◌≡◌, ◌∙◌, ap, sym, subst, ◌+◌, ◌*◌, ◌≤◌, [], ◌∷◌, ◌++◌, if◌then◌else◌, length, NumberLists, NoneLess, NormsWithin}
use Rattle.form_run.proofs.Marking.{marked_added, marked_perhaps}
use Rattle.form_run.proofs.marked_forms.MarkedForms.add_mark.Goals as goal

pub invariant_of-self-in-Some-new_mark-2 : goal.invariant_of-self-in-Some-new_mark-2
invariant_of-self-in-Some-new_mark-2 c =
    let s = c.self.inside in
    let least : c.in-Some-new_mark.mark.least ≡ c.args.least = search rules in
    let scale : c.in-Some-new_mark.mark.scale ≡ c.args.scale = search rules in
    let is : c.args.at ≡ length c.self.inside.marks.items * 64 = search rules in
    let whole : c.args.at + 64 ≤ length c.self.inside.forms.lists = search rules in
    let norms : NormsWithin c.self.inside.forms c.args.at (c.args.at + 64) c.in-Some-new_mark.mark.norm = search rules in
    let now : c.push.new.self.items ≡ (if is_ok c.push.result then c.self.inside.marks.items ++ c.in-Some-new_mark.mark ∷ [] else c.self.inside.marks.items) = search rules in
    marked_perhaps s.forms s.marks.items _ (is_ok c.push.result) c.push.new.self.items now c.self.invariant
    (marked_added s.forms s.marks.items c.self.invariant c.args.at _ c.args.least c.args.scale c.args.vertex.now least scale c.in-Some-new_mark.ensures.vertex c.requires.least c.requires.scale
    (c.requires.size ∙ sym (ap (λ (l : NumberLists). l.size) c.self.view_is))
    (subst (λ (l : NumberLists). NoneLess l c.args.vertex.now c.args.scale c.args.at (c.args.at + 64) c.args.least) (sym c.self.view_is) c.requires.values)
    is whole norms)
