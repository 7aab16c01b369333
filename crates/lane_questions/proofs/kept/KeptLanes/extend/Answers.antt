use Rattle.lane_questions.proofs.Words.{rules, refl, ap, ◌∙◌, LaneVertex}
use Rattle.lane_questions.proofs.KeptRuns.{kept_further}
use Rattle.lane_questions.proofs.Extending.{ends_here, below_here, modest_here}
use Rattle.lane_questions.proofs.kept.KeptLanes.extend.Goals as goal

pub loop-init : goal.loop-init
loop-init c = λ n known K context e kept. kept_further n known K c.args.self.now context kept

pub returns-in_default : goal.returns-in_default
returns-in_default c = λ yes n known K context e kept.
    ends_here n K c.loop.self c.as_slice.result.now (c.loop.invariant n known K context e kept) (c.as_slice.ensures.value ∙ e)
    c.self.inside.rows (ap (λ (v : LaneVertex). v.table) c.self.view_is) c.in_default.ensures.none

pub loop-preserved : goal.loop-preserved
loop-preserved c = λ n known K context e kept.
    let is = c.as_slice.ensures.value ∙ e in
    let before = c.loop.invariant n known K context e kept in
    c.if-not-step.ensures refl n K
    (modest_here n K c.loop.self c.as_slice.result.now before is c.norm.result (search rules) c.norm.ensures.small)
    (below_here n K c.loop.self c.as_slice.result.now before is c.self.inside.rows (ap (λ (v : LaneVertex). v.table) c.self.view_is) c.in-Some.row c.in-Some.ensures.some)
    before
