-- The run without parameters of some rows, remembered, and what it makes of further rows behind them.
use Rattle.std.specs.Prelude.{◌≡◌, ℕ, ◌+◌, ◌<◌, ◌≤◌, ℤ, Bool, false, Some, IsTrue, List, [], ◌∷◌, ◌++◌, length, map, flat_map, get_or}
use Rattle.pip_model.specs.Forms.{constant}
use Rattle.pip_model.specs.Listed.{all_fit}
use Rattle.pip_model.specs.Numbers.{is_nonneg}
use Rattle.pip_model.specs.Tree.{Tree}
use Rattle.pip_model.specs.Rows.{Row, row_at, eliminated, eliminated_listed, entering, entering_listed}
use Rattle.pip_model.specs.Run.{Work, Counted, Node, ◌>>=◌, ◌>>◌, go_on, give, listed, count_pivot, run_from, point_setting}
use Rattle.pip_model.specs.Refuting.{Trace, refute_from}
use Rattle.row_laws.specs.Choices.{IsCandidate}
use Rattle.row_laws.specs.Tableaus.{IsRow}
use Rattle.point_turns.specs.Traces.{exchanges}
use Rattle.short_run.specs.Turns.{node_of}
use Rattle.kept_run.specs.declared.remembered.Replay.{Replay}
use Rattle.kept_run.specs.declared.remembered.Remembered.{Remembered}
use Rattle.short_run.specs.Points.{finds_point, first_rows, is_end}

-- a pivot on a row that stands in front of these is counted, and turns them
abbrev pub turned : Row → ℕ → List Row → Counted (List Row)
turned p c rows = do
  count_pivot
  listed (flat_map (eliminated_listed p c) rows)
  give (map (eliminated p c) rows)

-- the same of pivots in order, by their rows and columns
abbrev pub replayed : List Row → List ℕ → List Row → Counted (List Row)
replayed [] cs rows = give rows
replayed (p ∷ ps) [] rows = give rows
replayed (p ∷ ps) (c ∷ cs) rows = do
  now ← turned p c rows
  replayed ps cs now

-- these pivots make of these rows `now`, and refuse none of their numbers, whatever stands behind them
pub record IsTurned (ps : List Row) (cs : List ℕ) (rows now : List Row) : Type 0 where
  pub turns : (further : List Row) (w : Work) → replayed ps cs (rows ++ further) w ≡ go_on (replayed ps cs further w) (λ more. give (now ++ more))

-- a row and a column for each pivot, no more than there are rows, and the rows of a run without parameters
pub record IsFormed (m : Replay) : Type 0 where
  pub unknowns : m.pivots.unknowns ≡ m.end.unknowns
  pub pivots_width : m.pivots.width ≡ 0
  pub width : m.end.width ≡ 0
  pub rows : m.end.unknowns ≤ length m.end.rows
  pub lengths : length m.pivots.rows ≡ length m.columns.items
  pub few : length m.columns.items ≤ length m.end.rows
  pub each : (i : ℕ) → i < length m.columns.items
      → IsCandidate m.end.unknowns (row_at m.pivots.rows i) (get_or m.columns.items i 0)

-- with further rows behind them the first rows make these pivots in a run with a trace, and go on from the rows E
abbrev pub RetracesTo : {Y : Type 0} → (Trace → Node → Counted Y) → List Row → List Row → List ℕ → List ℕ → List Row → Type 0
RetracesTo run first ps rs cs E = (T : Trace) (rows : List Row) (w : Work) → run T (node_of (first ++ rows)) w
    ≡ go_on (replayed ps cs rows w) (λ now. run (exchanges rs cs T) (node_of (E ++ now)))

-- the run of a point, whatever its trace
abbrev pub traced_point : ℕ → Trace → Node → Counted Tree
traced_point n T N = run_from (point_setting n) N

-- with further rows behind them the first rows make these pivots, and go on from the last rows; so with a trace
pub record IsReplay (first : List Row) (m : Replay) : Type 0 where
  pub places : length m.rows.items ≡ length m.columns.items
  pub within : (i : ℕ) → i < length m.columns.items → get_or m.rows.items i 0 < length first
  pub number : length m.end.rows ≡ length first
  pub run : RetracesTo (traced_point m.end.unknowns) first m.pivots.rows m.rows.items m.columns.items m.end.rows
  pub traced : RetracesTo (refute_from m.end.unknowns) first m.pivots.rows m.rows.items m.columns.items m.end.rows

-- it is known whether the last rows are an end
pub record IsStopped (m : Remembered) : Type 0 where
  pub formed : IsFormed m.run
  pub at_end : m.at_end ≡ is_end m.run.end.unknowns m.run.end.rows

-- a remembered run with further rows behind it: whether it finds a point
abbrev pub asked : Remembered → List Row → Counted Bool
asked m rows = do
  now ← replayed m.run.pivots.rows m.run.columns.items rows
  finds_point m.run.end.unknowns (m.run.end.rows ++ now)

-- the run of a context's forms, or the beginning of it
pub record IsRemembered (n : ℕ) (K : List (List ℤ)) (m : Remembered) : Type 0 where
  pub unknowns : m.run.end.unknowns ≡ n
  pub stopped : IsStopped m
  pub replay : IsReplay (first_rows n K) m.run

-- one row behind a run's own is below 0, and this column enters there
pub record IsPivotBehind (n : ℕ) (E now : List Row) (c : ℕ) : Type 0 where
  pub one : length now ≡ 1
  pub row : IsRow n 0 (row_at now 0)
  pub below : is_nonneg (constant (row_at now 0).constant) ≡ false
  pub enters : entering (E ++ now) (length E + 0) ≡ Some c
  pub compared : IsTrue (all_fit (entering_listed (E ++ now) (length E + 0)))
  pub candidate : IsCandidate n (row_at now 0) c
