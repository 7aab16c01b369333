-- What a run without parameters has derived, turn by turn.
use Rattle.std.specs.Prelude.{◌≡◌, ℕ, ◌<◌, pos, ◌+ℤ◌, false, Some, List, [], ◌∷◌, ◌++◌, length, slice_set}
use Rattle.std.specs.List.{list_any}
use Rattle.pip_model.specs.Numbers.{is_positive}
use Rattle.pip_model.specs.Forms.{entry}
use Rattle.pip_model.specs.Rows.{Row, row_at}
use Rattle.pip_model.specs.Refuting.{Trace, cut_step}
use Rattle.point_turns.specs.Turns.{negative_from}

-- the cut by the row R: its row stands for its step's form
abbrev pub with_cut : Trace → Row → Trace
with_cut T R = record {
  rows = T.rows ++ T.next ∷ [];
  columns = T.columns;
  next = T.next +ℤ pos 1;
  steps = T.steps ++ cut_step R T.columns ∷ [];
}

-- the trace after a pivot on row r and column c
abbrev pub exchanged : Trace → ℕ → ℕ → Trace
exchanged T r c = record T { columns = slice_set T.columns c (entry T.rows r) }

-- the same of pivots in order, by their rows' places and their columns
abbrev pub exchanges : List ℕ → List ℕ → Trace → Trace
exchanges [] cs T = T
exchanges (r ∷ rs) [] T = T
exchanges (r ∷ rs) (c ∷ cs) T = exchanges rs cs (exchanged T r c)

-- row r is the first below 0, and no column enters there
pub record IsClosing (rows : List Row) (r : ℕ) : Type 0 where
  pub below : negative_from 0 rows ≡ Some r
  pub within : r < length rows
  pub none : list_any is_positive (row_at rows r).coefs ≡ false

-- an index for each row and each column
pub record IsTraced (n : ℕ) (rows : List Row) (T : Trace) : Type 0 where
  pub rows_traced : length T.rows ≡ length rows
  pub columns_traced : length T.columns ≡ n
