use Rattle.lane_questions.proofs.Words.{rules, arith, refl, ◌≡◌, ap, sym, subst, pos, ◌<ℤ◌, ◌≤ℤ◌, to_z, of_z, Bool, ◌++◌, ints, w32, AgreesCounted, counted_on, ScaledTable, stop_fault, LaneVertex}
use Rattle.lane_questions.proofs.KeptRuns.{counted_kept}
use Rattle.lane_questions.proofs.OneBehind.{goes_on_behind, forms_behind, modest_behind, row_behind, none_behind}
use Rattle.lane_questions.proofs.kept.KeptLanes.find.Goals as goal

pub returns-then-get-lt0-clause-gives : goal.returns-then-get-lt0-clause-gives
returns-then-get-lt0-clause-gives c = λ n K form is.
    let all = c.args.forms.forms.now ++ c.args.forms.further.now in
    let row = c.args.row in
    let v = c.args.self.now in
    let same = ap (λ (x : LaneVertex). x.table) c.self.view_is in
    let pivots = ap (λ (x : LaneVertex). x.pivots) c.self.view_is in
    let again = c.if-not-count_again.ensures in
    let from = goes_on_behind n K form all row v is c.args.work.now c.count_again.new.self c.self.inside.pivots pivots (again.room.0 refl) again.counted in
    let whole : to_z w32 (of_z w32 c.get.result) ≡ c.get.result = search rules in
    let below : c.get.result <ℤ pos 0 = let e = c.if-get-lt0.true in omega (arith, ints, e, whole) in
    let positive : pos 1 ≤ℤ c.args.self.now.table.scale = subst (λ (t : ScaledTable). pos 1 ≤ℤ t.scale) same c.scale.ensures.rows.positive in
    let first = row_behind n K form all row v is c.requires.lanes positive c.requires.unused (subst (λ z. z <ℤ pos 0) c.get.ensures.value below) in
    let told = c.pivot_behind.ensures.gives _ (modest_behind n K form all row v is) first (forms_behind n K form all row v is) in
    record {
      agrees = subst (AgreesCounted (λ (b : Bool). b) stop_fault c.pivot_behind.result c.pivot_behind.new.work) (sym from) told.agrees;
      counted = counted_on c.args.work.now c.count_again.new.self c.pivot_behind.new.work (counted_kept c.args.work.now c.count_again.new.self c.self.inside.pivots again.counted) told.counted;
    }

pub returns-clause-gives : goal.returns-clause-gives
returns-clause-gives c = λ n K form is.
    let all = c.args.forms.forms.now ++ c.args.forms.further.now in
    let row = c.args.row in
    let v = c.args.self.now in
    let same = ap (λ (x : LaneVertex). x.table) c.self.view_is in
    let pivots = ap (λ (x : LaneVertex). x.pivots) c.self.view_is in
    let again = c.if-not-count_again.ensures in
    let from = goes_on_behind n K form all row v is c.args.work.now c.count_again.new.self c.self.inside.pivots pivots (again.room.0 refl) again.counted in
    let whole : to_z w32 (of_z w32 c.get.result) ≡ c.get.result = search rules in
    let least : pos 0 ≤ℤ c.get.result = let e = c.if-get-lt0.false in omega (arith, ints, e, whole) in
    let positive : pos 1 ≤ℤ c.args.self.now.table.scale = subst (λ (t : ScaledTable). pos 1 ≤ℤ t.scale) same c.scale.ensures.rows.positive in
    let none = none_behind n K form all row v is c.requires.lanes positive (subst (λ z. pos 0 ≤ℤ z) c.get.ensures.value least) in
    let told = c.cut_behind.ensures.gives _ (forms_behind n K form all row v is) none in
    record {
      agrees = subst (AgreesCounted (λ (b : Bool). b) stop_fault c.cut_behind.result c.cut_behind.new.work) (sym from) told.agrees;
      counted = counted_on c.args.work.now c.count_again.new.self c.cut_behind.new.work (counted_kept c.args.work.now c.count_again.new.self c.self.inside.pivots again.counted) told.counted;
    }
