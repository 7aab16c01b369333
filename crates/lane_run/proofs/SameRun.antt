-- A question's run from turn to turn: it finds what it found from the first rows on.
use Rattle.lane_run.proofs.Words.{◌≡◌, ◌∙◌, ap, sym, subst, ℕ, ℤ, ◌<◌, None, is_some, List, Row, Work, left, go_on, give, point_setting, again_run, again_less, falls-constant_class, finds_point, IsTurnOf, node_of, ScaledTable, run_rows, forms_of, numbers_of}
use Rattle.pip_problem.specs.Counts.{HasCounted}
use Rattle.pip_problem.proofs.Counting.{counted_on}

-- the run of n unknowns from the first rows and counts, which goes on from others
pub record IsSameRun (n : ℕ) (first now : List Row) (before w : Work) : Type 0 where
  pub counted : HasCounted before w
  pub same : finds_point n now w ≡ finds_point n first before

module _ (n : ℕ) (first now : List Row) (before w v : Work) (is : IsSameRun n first now before w) (counted : HasCounted w v) where
  pub same_on : (next : List Row) → IsTurnOf n now next w v None → IsSameRun n first next before v
  same_on next e = record {
    counted = counted_on before w v is.counted counted;
    same = sym (ap (λ o. go_on o (λ t. give (is_some (numbers_of t)))) (again_run (point_setting n) falls-constant_class (node_of now) (node_of next) w v e)) ∙ is.same;
  }

  pub less_left : (next : List Row) → IsTurnOf n now next w v None → left v < left w
  less_left next e = again_less (point_setting n) falls-constant_class (node_of now) (node_of next) w v e

-- a turn over the table's columns is one over as many columns
pub turn_over : (k n : ℕ) (rows now : ScaledTable) (forms : List (List ℤ)) (w v : Work) → k ≡ n
    → IsTurnOf k (run_rows rows (forms_of k forms)) (run_rows now (forms_of k forms)) w v None
    → IsTurnOf n (run_rows rows (forms_of n forms)) (run_rows now (forms_of n forms)) w v None
turn_over k n rows now forms w v e turned = subst (λ (j : ℕ). IsTurnOf j (run_rows rows (forms_of j forms)) (run_rows now (forms_of j forms)) w v None) e turned
