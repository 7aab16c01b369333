-- Which turn of the run without parameters it was.
use Rattle.std.specs.Prelude.{◌≡◌, ℕ, ◌<◌, Some, None, List, [], ◌∷◌, ◌++◌, length}
use Rattle.pip_model.specs.Rows.{Row, row_at, entering, first_fraction}
use Rattle.pip_model.specs.Cuts.{constant_cut}
use Rattle.point_turns.specs.Turns.{negative_from}
use Rattle.point_turns.specs.declared.turns.PointTurn.{PointTurn}
use Rattle.point_turns.specs.declared.turns.PointTurn.TheVariants as code

-- which turn it was: the first row below 0 and the column that entered there, or the first fraction and its cut
abbrev pub IsTurnAt : ℕ → List Row → List Row → PointTurn → Type 0
IsTurnAt n rows now (code.Bottom r) =
    (negative_from 0 rows ≡ Some r) × (r < length rows) × (entering rows r ≡ None) × (now ≡ rows)
IsTurnAt n rows now code.List = (negative_from 0 rows ≡ None) × (first_fraction n rows ≡ None)
IsTurnAt n rows now (code.Pivot r c) =
    (negative_from 0 rows ≡ Some r) × (r < length rows) × (entering rows r ≡ Some c) × (c < n)
    × (length now ≡ length rows)
IsTurnAt n rows now (code.Cut i) =
    (negative_from 0 rows ≡ None) × (first_fraction n rows ≡ Some i) × (i < length rows)
    × (now ≡ rows ++ constant_cut (row_at rows i) ∷ [])
