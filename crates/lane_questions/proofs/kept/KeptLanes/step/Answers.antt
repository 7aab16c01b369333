use Rattle.lane_questions.proofs.Words.{rules, sym, subst, ℕ, map, widen_to, LaneVertex, IsKeptLanes, IsRowBelow}
use Rattle.lane_questions.proofs.KeptSteps.{steps_on}
use Rattle.lane_questions.proofs.kept.KeptLanes.step.Goals as goal

pub returns : goal.returns
returns c = λ yes n K modest below kept.
    let now = c.pivot_at.new.rows in
    let old : LaneVertex = record { table = c.self.inside.rows; pivots = c.self.inside.pivots } in
    let here : IsRowBelow c.self.inside.rows (map (widen_to n) K) c.args.row = subst (λ (v : LaneVertex). IsRowBelow v.table (map (widen_to n) K) c.args.row) (sym c.self.view_is) below in
    let before : IsKeptLanes n K old = subst (IsKeptLanes n K) (sym c.self.view_is) kept in
    subst (λ (j : ℕ). IsKeptLanes n K (record { table = now; pivots = j })) (sym (search rules))
    (steps_on c.self.inside.rows now c.self.inside.pivots c.args.row c.in-Some.c (c.pivot_at.ensures yes) n K here before)
