use Rattle.form_run.proofs.Words.{rules, ◌≡◌, ◌∙◌, ap, subst, ℕ, ◌*◌, ◌^◌, ◌<◌, length, NumberLists}
use Rattle.form_run.proofs.Lists.{count_is}
use Rattle.form_run.proofs.flat_lists.FlatLists.len.Goals as goal

pub returns-clause-value : goal.returns-clause-value
returns-clause-value c = count_is c.self.inside.size c.self.inside.count c.self.inside.numbers.items c.args.self.now c.self.view_is

pub returns-clause-room : goal.returns-clause-room
returns-clause-room c =
    let small : length c.self.inside.numbers.items < 2 ^ 63 = search rules in
    let k = count_is c.self.inside.size c.self.inside.count c.self.inside.numbers.items c.args.self.now c.self.view_is in
    let s : c.self.inside.size ≡ c.args.self.now.size = ap (λ (t : NumberLists). t.size) c.self.view_is in
    subst (λ (z : ℕ). z < 2 ^ 63) (c.self.invariant ∙ ap (λ (j : ℕ). j * c.self.inside.size) k ∙ ap (λ (j : ℕ). length c.args.self.now.lists * j) s) small
