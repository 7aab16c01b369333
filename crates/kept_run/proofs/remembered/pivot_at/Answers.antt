use Rattle.kept_run.proofs.Words.{rules, arith, ◌∙◌, ap, length, refute_from, TableauRows, traced_point, length_pivot, IsStep}
use Rattle.kept_run.proofs.Retracing.{points, refutes, retraces-more, retraces-made, within-more, places-more}
use Rattle.kept_run.proofs.remembered.pivot_at.Goals as goal

pub returns-clause-replay : goal.returns-clause-replay
returns-clause-replay c first is =
    let m = c.args.m.now in
    let E = m.end.rows in
    let made : IsStep E c.args.r c.in-Some.c = record {
      below = c.requires.first;
      within = c.requires.row;
      columns = omega (arith, c.entering.ensures.row.coefs, c.requires.formed.rows);
      enters = search rules;
      compared = search rules;
      fits = c.pivot.ensures.listed;
    } in
    let pivoted = c.pivot.ensures.short (search rules) in
    record {
      places = rw (c.in_ok-push_place.ensures, c.in_ok-push_place-2.ensures) (places-more m.rows.items m.columns.items c.args.r c.in-Some.c is.places);
      within = rw (c.in_ok-push_place.ensures, c.in_ok-push_place-2.ensures) (within-more (length first) m.rows.items c.args.r m.columns.items c.in-Some.c is.places is.within (omega (arith, c.requires.row, is.number)));
      number = rw pivoted (length_pivot E c.args.r c.in-Some.c ∙ is.number);
      run = rw (c.in_ok-push_copy.ensures.ok, c.in_ok-push_place-2.ensures, pivoted)
          (retraces-more m.end.unknowns (traced_point m.end.unknowns) (points m.end.unknowns) first m.pivots.rows m.rows.items m.columns.items E c.args.r c.in-Some.c c.requires.formed.lengths is.places is.run made);
      traced = retraces-made refute_from m.end.unknowns c.pivot.new.self.unknowns first _ c.push_copy.new.self.rows _ c.push_place.new.places.items _ c.push_place-2.new.places.items _ c.pivot.new.self.rows
          (retraces-more m.end.unknowns (refute_from m.end.unknowns) (refutes m.end.unknowns) first m.pivots.rows m.rows.items m.columns.items E c.args.r c.in-Some.c c.requires.formed.lengths is.places is.traced made)
          (ap (λ (t : TableauRows). t.unknowns) pivoted) (ap (λ (t : TableauRows). t.rows) c.in_ok-push_copy.ensures.ok) c.in_ok-push_place.ensures c.in_ok-push_place-2.ensures
          (ap (λ (t : TableauRows). t.rows) pivoted);
    }
