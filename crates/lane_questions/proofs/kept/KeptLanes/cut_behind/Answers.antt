use Rattle.lane_questions.proofs.Words.{rules, ◌≡◌, ◌∙◌, ◌++◌, ap, sym, subst, Bool, true, None, ℤ, List, AgreesCounted, Done, counted_none, ScaledTable, stop_fault, finds_point, negative_from, LaneVertex, run_rows, forms_of}
use Rattle.lane_run.proofs.CutTurns.{point_found}
use Rattle.lane_questions.proofs.kept.KeptLanes.cut_behind.Goals as goal

pub returns-then-is_none-clause-gives : goal.returns-then-is_none-clause-gives
returns-then-is_none-clause-gives c = λ F e above.
    let t = c.self.inside.rows in
    let same = ap (λ (v : LaneVertex). v.table) c.self.view_is in
    record {
      agrees = subst (λ (x : ScaledTable). negative_from 0 (run_rows x F) ≡ None → finds_point x.unknowns (run_rows x F) c.args.work.now ≡ Done true c.args.work.now) same
          (λ none. point_found t t.most c.scale.ensures.rows c.unknowns.ensures.rows F none c.args.work.now (search rules)) above;
      counted = counted_none c.args.work.now;
    }

pub returns-clause-gives : goal.returns-clause-gives
returns-clause-gives c = λ F e above.
    let all = c.args.forms.forms.now ++ c.args.forms.further.now in
    let v = c.args.self.now in
    let same = ap (λ (x : LaneVertex). x.table) c.self.view_is in
    let told = c.run_in_lanes.ensures.gives in
    let on = ap (λ (G : List (List ℤ)). finds_point v.table.unknowns (run_rows v.table G) c.args.work.now) e
    ∙ ap (λ (t : ScaledTable). finds_point t.unknowns (run_rows t (forms_of t.unknowns all)) c.args.work.now) (sym (c.in_ok-copy_from.ensures.ok ∙ same)) in
    record {
      agrees = subst (AgreesCounted (λ (b : Bool). b) stop_fault c.run_in_lanes.result c.run_in_lanes.new.work) (sym on) told.agrees;
      counted = told.counted;
    }
