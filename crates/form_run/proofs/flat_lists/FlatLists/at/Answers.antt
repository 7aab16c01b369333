use Rattle.form_run.proofs.Words.{rules, arith, ◌≡◌, ◌∙◌, ap, sym, ◌<◌, ◌*◌, take, drop, [], get_or, NumberLists}
use Rattle.form_run.proofs.Lists.{count_is, list_here}
use Rattle.form_run.proofs.flat_lists.FlatLists.at.Goals as goal

pub place_of-place-requires-clause-list : goal.place_of-place-requires-clause-list
place_of-place-requires-clause-list c = omega (arith, count_is c.self.inside.size c.self.inside.count c.self.inside.numbers.items c.args.self.now c.self.view_is, c.requires)

pub returns-clause-value : goal.returns-clause-value
returns-clause-value c =
    let s = c.self.inside in
    let lt : c.args.i < c.self.inside.count = omega (arith, count_is c.self.inside.size c.self.inside.count c.self.inside.numbers.items c.args.self.now c.self.view_is, c.requires) in
    let made : c.split_at-2.result.0.now ≡ take c.self.inside.size (drop (c.args.i * c.self.inside.size) c.self.inside.numbers.items) = search rules in
    made ∙ sym (list_here s.size s.count c.args.i s.numbers.items lt) ∙ ap (λ (l : NumberLists). get_or l.lists c.args.i []) c.self.view_is
