use Rattle.node_rows.proofs.Words.{rules, arith, ◌≡◌, ◌∙◌, refl, ap, subst, sym, ◌<◌, length, map, List, ℤ, length-map, row_at, eliminated, pivot, TableauRows, IsBasis, all_rows}
use Rattle.node_rows.proofs.Pivoting.{long, all_listed, all_pivot, read_after, same_rows}
use Rattle.node_rows.proofs.node_rows.NodeRows.pivot_by_forms.Goals as goal

pub measure-requires : goal.measure-requires
measure-requires c =
    let t = c.self.inside.made in
    let e = subst (λ (fs : List (List ℤ)). c.in_ok-rows.rows ≡ record t { rows = map (eliminated (row_at (all_rows t c.self.inside.basis fs).rows c.args.r) c.args.c) t.rows }) c.as_slice.ensures c.in_ok-rows.ensures in
    let some : 0 < length c.self.inside.forms = omega (arith, c.if-count-lt1.false, c.len-count.ensures.value) in
    let all = all_rows t c.self.inside.basis c.self.inside.forms in
    let count = length-map t.rows (eliminated (row_at all.rows c.args.r) c.args.c) ∙ long t c.self.inside.basis c.self.inside.forms c.self.invariant.0 some in
    subst (λ (s : TableauRows). length s.rows ≡ s.unknowns) (sym e) count

pub invariant_of-self : goal.invariant_of-self
invariant_of-self c =
    let some : 0 < length c.self.inside.forms = omega (arith, c.if-count-lt1.false, c.len-count.ensures.value) in (
      read_after c.self.inside.made c.self.inside.basis c.self.inside.forms c.self.invariant.0 some c.in_ok-rows.rows c.in-Some.basis c.self.inside.norm
          (ap (λ (s : TableauRows). s.unknowns) c.in_ok-rows.ensures) (ap (λ (s : TableauRows). s.width) c.in_ok-rows.ensures) c.in-Some.ensures.basis c.self.invariant.1 c.in-Some.ensures.bound,
      c.self.invariant.1,
    )

pub returns-in-Some-clause-listed : goal.returns-in-Some-clause-listed
returns-in-Some-clause-listed c =
    let some : 0 < length c.self.inside.forms = omega (arith, c.if-count-lt1.false, c.len-count.ensures.value) in
    search (rules, all_listed c.self.inside.made c.self.inside.basis c.self.inside.forms c.self.invariant.0 some c.args.r c.args.c (search rules) (search rules))

pub returns-in-Some-clause-ok : goal.returns-in-Some-clause-ok
returns-in-Some-clause-ok c =
    let t = c.self.inside.made in
    let b = c.self.inside.basis in
    let forms = c.self.inside.forms in
    let a = c.in-Some.basis in
    let some : 0 < length forms = omega (arith, c.if-count-lt1.false, c.len-count.ensures.value) in
    let e = subst (λ (fs : List (List ℤ)). c.in_ok-rows.rows ≡ record t { rows = map (eliminated (row_at (all_rows t b fs).rows c.args.r) c.args.c) t.rows }) c.as_slice.ensures c.in_ok-rows.ensures in
    let now = subst (λ (s : TableauRows). IsBasis s.unknowns s.width s.rows a.scale a.most a.columns.items) e c.in-Some.ensures.basis in
    same_rows c.in_ok-rows.rows _ a a forms forms e refl refl
    ∙ all_pivot t b forms c.self.invariant.0 some c.args.r c.args.c a (search rules) (search rules) (search rules) now
    ∙ ap (λ (s : TableauRows). record s { rows = pivot s.rows c.args.r c.args.c }) (search rules)
