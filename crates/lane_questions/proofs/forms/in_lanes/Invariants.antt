use Rattle.lane_questions.proofs.Words.{◌≡◌}
use Rattle.lane_questions.proofs.FormLanes.{first_lanes}
use Rattle.lane_questions.proofs.forms.in_lanes.Given as goal

abbrev pub invariant-loop-k : goal.invariant-loop-k
invariant-loop-k l = l.lanes ≡ first_lanes l.entries l.k
