use Rattle.lane_questions.proofs.Words.{◌≡◌, ℕ, ℤ, List, take, IsContext, all_lanes, IsKeptLanes}
use Rattle.lane_questions.proofs.kept.KeptLanes.extend.Given as goal

abbrev pub invariant-loop : goal.invariant-loop
invariant-loop l = (n known : ℕ) (K : List (List ℤ)) → IsContext n K → l.forms.forms ≡ all_lanes K → IsKeptLanes n (take known K) l.fn.self → IsKeptLanes n K l.self
