use Rattle.std.proofs.Common.{All}
use Rattle.form_run.proofs.Words.{rules, arith, ◌≡◌, ◌∙◌, ap, sym, ◌+◌, length, List, ℤ, Row, start_read, IsMeasured, IsHeld, IsAbove, NumberLists, all_rows, ◌*◌, ◌^◌, ◌<◌, subst}
use Rattle.form_run.proofs.Below.{none_above}
use Rattle.form_run.proofs.starting.measured.Goals as goal

pub returns-clause-value : goal.returns-clause-value
returns-clause-value c =
    let t = c.args.places in
    let b = c.measure.new.basis in
    let basis : IsMeasured c.args.places c.measure.new.basis = search rules in
    let none : c.args.places.unknowns + 0 + 1 ≡ c.args.places.unknowns + 1 = omega arith in
    let wide : All (λ (f : List ℤ). length f ≡ c.args.places.unknowns + 0 + 1) c.args.forms.lists = λ k d lt. c.requires.wide k d lt ∙ sym none in
    ap (λ (l : NumberLists). all_rows t b l.lists) c.new.ensures
    ∙ ap (λ (rows : List Row). record { unknowns = c.args.places.unknowns; width = 0; rows = rows })
    (start_read t.unknowns 0 t.rows b.scale b.most b.columns.items c.args.forms.lists c.requires.first basis wide)

pub invariant_of-result : goal.invariant_of-result
invariant_of-result c =
    let t = c.args.places in
    let b = c.measure.new.basis in
    let measured : IsMeasured c.args.places c.measure.new.basis = search rules in
    let bound : c.in-Some.norm * c.measure.new.basis.most < 2 ^ 63 = search rules in
    let held : IsHeld c.args.places c.measure.new.basis c.args.forms c.args.columns c.in-Some.norm = record {
      basis = measured;
      size = c.requires.size;
      wide = c.requires.wide;
      norms = c.in-Some.ensures;
      bound = bound;
      columns_size = c.requires.columns_size;
      columns_count = c.requires.columns;
    } in
    subst (λ (l : NumberLists). (IsHeld t b l c.args.columns c.in-Some.norm) × (IsAbove t b l.lists 0)) (sym c.new.ensures) (held, none_above t b c.args.forms.lists)
