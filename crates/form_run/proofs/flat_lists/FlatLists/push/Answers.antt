use Rattle.form_run.proofs.Words.{rules, ◌≡◌, ◌∙◌, ap, sym, ℕ, ◌+◌, ◌++◌, length, NumberLists, lists_in}
use Rattle.form_run.proofs.Lists.{pushed_view}
use Rattle.form_run.proofs.flat_lists.FlatLists.push.Goals as goal

pub returns-clause-ok : goal.returns-clause-ok
returns-clause-ok c =
    let s = c.self.inside in
    let n : c.in_ok-count.count ≡ c.self.inside.count + 1 = search rules in
    let items : c.extend_from_slice.new.self.items ≡ c.self.inside.numbers.items ++ c.args.list.now = search rules in
    let size : length c.args.list.now ≡ c.self.inside.size = c.requires ∙ sym (ap (λ (t : NumberLists). t.size) c.self.view_is) in
    ap (λ (k : ℕ). record { size = c.self.inside.size; lists = lists_in c.self.inside.size k c.extend_from_slice.new.self.items }) n
    ∙ pushed_view s.size s.count s.numbers.items c.args.list.now c.extend_from_slice.new.self.items c.args.self.now c.self.view_is c.self.invariant size items
