use Rattle.form_run.proofs.Words.{rules, ◌≡◌, ◌∙◌, ap, sym, subst, ◌+◌, ◌*◌, ◌/◌, ◌<◌, length, NumberLists, NoneLess, get_or}
use Rattle.form_run.proofs.Marking.{marked_renewed}
use Rattle.form_run.proofs.marked_forms.MarkedForms.mark.Goals as goal

pub invariant_of-self : goal.invariant_of-self
invariant_of-self c =
    let s = c.self.inside in
    let least : c.renew.new.mark.least ≡ c.args.least = search rules in
    let scale : c.renew.new.mark.scale ≡ c.args.scale = search rules in
    let lt : c.args.at / 64 < length c.self.inside.marks.items = search rules in
    let is : c.args.at / 64 * 64 ≡ c.args.at = search rules in
    let same : c.renew.new.mark.norm ≡ (get_or c.self.inside.marks.items (c.args.at / 64) c.index_mut.result.now).norm = search rules in
    marked_renewed s.forms s.marks.items c.self.invariant c.args.at _ c.args.least c.args.scale c.args.vertex.now least scale c.renew.ensures.vertex c.requires.least c.requires.scale
    (c.requires.size ∙ sym (ap (λ (l : NumberLists). l.size) c.self.view_is))
    (subst (λ (l : NumberLists). NoneLess l c.args.vertex.now c.args.scale c.args.at (c.args.at + 64) c.args.least) (sym c.self.view_is) c.requires.values)
    (c.args.at / 64) c.index_mut.result.now lt is same
