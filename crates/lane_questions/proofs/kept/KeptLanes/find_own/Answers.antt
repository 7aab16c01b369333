use Rattle.lane_questions.proofs.Words.{rules, refl, ◌∙◌, ap, sym, subst, Bool, AgreesCounted, counted_on, stop_fault, LaneVertex}
use Rattle.lane_questions.proofs.KeptRuns.{counted_kept}
use Rattle.lane_questions.proofs.OwnPoint.{modest_own, forms_own, goes_on_own}
use Rattle.lane_questions.proofs.kept.KeptLanes.find_own.Goals as goal

pub returns-clause-gives : goal.returns-clause-gives
returns-clause-gives c = λ n K some is forms.
    let v = c.args.self.now in
    let pivots = ap (λ (x : LaneVertex). x.pivots) c.self.view_is in
    let again = c.if-not-count_again.ensures in
    let all = c.as_slice.result.now in
    let same = c.as_slice.ensures.value ∙ forms in
    let modest = modest_own n K v is c.norm.result all same (search rules) c.norm.ensures.small in
    let from = goes_on_own n K v is c.args.work.now c.count_again.new.self c.self.inside.pivots pivots (again.room.0 refl) again.counted some modest in
    let told = c.cut_behind.ensures.gives _ (forms_own n K v is all same) is.end in
    record {
      agrees = subst (AgreesCounted (λ (b : Bool). b) stop_fault c.cut_behind.result c.cut_behind.new.work) (sym from) told.agrees;
      counted = counted_on c.args.work.now c.count_again.new.self c.cut_behind.new.work (counted_kept c.args.work.now c.count_again.new.self c.self.inside.pivots again.counted) told.counted;
    }
