use Rattle.kept_run.proofs.Words.{rules, arith, ◌≡◌, ◌∙◌, refl, ap, subst, List, [], ◌∷◌, ◌++◌, length, length-append, widen_to, Row, row_at, form_row, TableauRows, refute_from, traced_point, IsTurned, only}
use Rattle.kept_run.proofs.GoingFurther.{retraces_further}
use Rattle.kept_run.proofs.Retracing.{retraces-made}
use Rattle.kept_run.proofs.further.push_further.Goals as goal

pub returns-clause-replay : goal.returns-clause-replay
returns-clause-replay c first is =
    let m = c.args.m.now in
    let n = c.args.m.now.end.unknowns in
    let now = c.turn_by_all.new.rows.rows in
    let row : c.push_short.new.rows.rows ≡ form_row c.args.m.now.end.unknowns (widen_to c.args.m.now.end.unknowns c.args.form.now) ∷ [] = search rules in
    let number : length c.turn_by_all.new.rows.rows ≡ 1 = search rules in
    let turned : IsTurned c.args.m.now.pivots.rows c.args.m.now.columns.items c.push_short.new.rows.rows c.turn_by_all.new.rows.rows = c.turn_by_all.ensures.turned (search rules) in
    let of_row = subst (λ (l : List Row). IsTurned c.args.m.now.pivots.rows c.args.m.now.columns.items l c.turn_by_all.new.rows.rows) row turned in
    let R : List Row = form_row n (widen_to n c.args.form.now) ∷ [] in
    record {
      places = is.places;
      within = λ i h. omega (arith, is.within i h, length-append first R);
      number = rw (c.in_ok-push_copy.ensures.ok) (length-append m.end.rows (row_at now 0 ∷ []) ∙ omega (arith, is.number, length-append first R));
      run = rw (c.in_ok-push_copy.ensures.ok, only c.turn_by_all.new.rows.rows number)
          (retraces_further (traced_point n) first m.pivots.rows m.rows.items m.columns.items m.end.rows R now is.run of_row);
      traced = retraces-made refute_from n c.push_copy.new.self.unknowns (first ++ R) m.pivots.rows m.pivots.rows m.rows.items m.rows.items m.columns.items m.columns.items (m.end.rows ++ now) c.push_copy.new.self.rows
          (retraces_further (refute_from n) first m.pivots.rows m.rows.items m.columns.items m.end.rows R now is.traced of_row)
          (ap (λ (t : TableauRows). t.unknowns) c.in_ok-push_copy.ensures.ok) refl refl refl
          (ap (λ (t : TableauRows). t.rows) c.in_ok-push_copy.ensures.ok ∙ ap (λ (rows : List Row). m.end.rows ++ rows) (only now number));
    }
