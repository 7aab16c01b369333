-- One form more behind a kept run's, by its row.
use Rattle.std.specs.Prelude.{◌≡◌, ℕ, ℤ, List, [], ◌∷◌, ◌++◌, map, take}
use Rattle.pip_model.specs.Contexts.{IsNarrow}
use Rattle.pip_model.specs.Forms.{widen_to}
use Rattle.form_laws.specs.ByForm.{combination}
use Rattle.scaled_laws.specs.Scaled.{row_over}
use Rattle.lane_run.specs.Laned.{numbers_of}
use Rattle.lane_questions.specs.Kept.{LaneVertex, IsEndedLanes}
use Rattle.lane_run.specs.Runs.{forms_of, AreModest}

-- the kept run of a context's forms, all of which stand in lanes with one form more behind them, and the row that this
-- form makes
pub record IsBehind (n : ℕ) (K : List (List ℤ)) (c : List ℤ) (all : List (List ℤ)) (row : List ℤ) (v : LaneVertex) : Type 0 where
  pub kept : IsEndedLanes n K v
  pub narrow : IsNarrow n c
  pub forms : forms_of n all ≡ map (widen_to n) (K ++ c ∷ [])
  pub modest : AreModest n (map (widen_to n) (K ++ c ∷ []))
  pub value : row_over n v.table.scale (numbers_of n row)
      ≡ combination n 0 v.table.scale (take n v.table.rows) (widen_to n c)
