-- The run of a context's forms that is kept in lanes: the rows of the places that its pivots make, and their number.
use Rattle.std.specs.Prelude.{◌≡◌, ℕ, zero, suc, ◌≤◌, ℤ, None, List, ◌++◌, length, map}
use Rattle.pip_model.specs.Contexts.{IsContext, IsNarrow}
use Rattle.pip_model.specs.Forms.{widen_to}
use Rattle.pip_model.specs.Run.{Work, Counted, ◌>>◌, give, go_on, count_pivot}
use Rattle.scaled_laws.specs.Tables.{ScaledTable}
use Rattle.point_turns.specs.Points.{finds_point, first_rows}
use Rattle.point_turns.specs.Turns.{negative_from}
use Rattle.lane_questions.specs.InLanes.{lanes_of, all_lanes}
use Rattle.lane_run.specs.Runs.{run_rows, AreModest}

-- the rows of the places, and how many pivots made them
pub record LaneVertex : Type 0 where
  pub table : ScaledTable
  pub pivots : ℕ

-- so many pivots are counted
abbrev pub counted_pivots : ℕ → Counted (Unit {0})
counted_pivots zero = give tt
counted_pivots (suc k) = count_pivot >> counted_pivots k

-- the first pivots of the run of a context's forms over n places, with the rows of the places alone: with further forms
-- behind them the forms make these pivots and go on from the rows there
pub record IsKeptLanes (n : ℕ) (K : List (List ℤ)) (v : LaneVertex) : Type 0 where
  pub few : n ≤ 7
  pub unknowns : v.table.unknowns ≡ n
  pub width : v.table.width ≡ 0
  pub alone : length v.table.rows ≡ n
  pub context : IsContext n K
  pub run : (M : List (List ℤ)) (w : Work) → IsContext n M → AreModest n (map (widen_to n) (K ++ M))
      → finds_point n (first_rows n (K ++ M)) w
      ≡ go_on (counted_pivots v.pivots w) (λ counted. finds_point n (run_rows v.table (map (widen_to n) (K ++ M))))

-- and none of the rows there is below 0
pub record IsEndedLanes (n : ℕ) (K : List (List ℤ)) (v : LaneVertex) : Type 0 where
  pub kept : IsKeptLanes n K v
  pub end : negative_from 0 (run_rows v.table (map (widen_to n) K)) ≡ None

-- the kept run of all forms of a context, which stand in lanes, and one form more
pub record IsQuestion (n : ℕ) (K : List (List ℤ)) (c : List ℤ) (laned : List (List ℤ)) (asked : List ℤ) (v : LaneVertex) : Type 0 where
  pub kept : IsEndedLanes n K v
  pub narrow : IsNarrow n c
  pub forms : laned ≡ all_lanes K
  pub form : asked ≡ lanes_of c
