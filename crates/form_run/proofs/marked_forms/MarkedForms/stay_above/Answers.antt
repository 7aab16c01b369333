use Rattle.form_run.proofs.Words.{rules, ◌≡◌, ◌∙◌, ap, sym, subst, ◌+◌, ◌*◌, ◌/◌, ◌<◌, length, pos, NumberLists, StaysAbove, NoneLess, get_or}
use Rattle.form_run.proofs.Marking.{stay}
use Rattle.form_run.proofs.marked_forms.MarkedForms.stay_above.Goals as goal

pub returns-then-block-len : goal.returns-then-block-len
returns-then-block-len c = λ yes.
    let s = c.self.inside in
    let lt : c.args.at / 64 < length c.self.inside.marks.items = search rules in
    let is : c.args.at / 64 * 64 ≡ c.args.at = search rules in
    let near : StaysAbove (get_or c.self.inside.marks.items (c.args.at / 64) c.index.result.now) c.args.vertex.now c.args.scale = search (rules, c.stays_above.ensures yes) in
    subst (λ (l : NumberLists). NoneLess l c.args.vertex.now c.args.scale c.args.at (c.args.at + 64) (pos 0)) c.self.view_is
    (stay s.forms s.marks.items _ c.args.at c.index.result.now c.args.vertex.now c.args.scale c.self.invariant lt is (c.requires.size ∙ sym (ap (λ (l : NumberLists). l.size) c.self.view_is)) c.requires.scale near)
