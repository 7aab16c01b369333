-- What a run keeps: the places' rows and what they are measured by, the forms behind them, and a list for each column.
use Rattle.std.specs.Prelude.{◌≡◌, ℕ, ◌+◌, ◌*◌, ◌^◌, ◌<◌, ◌≤◌, ℤ, Option, Some, None, List, [], ◌∷◌, ◌++◌, length, map, drop, All}
use Rattle.pip_model.specs.Rows.{row_at}
use Rattle.row_laws.specs.Tableaus.{TableauRows}
use Rattle.point_turns.specs.Turns.{negative_from}
use Rattle.form_basis.specs.Bounds.{norm}
use Rattle.form_basis.specs.declared.basis.Basis.{Basis}
use Rattle.form_basis.specs.ReadRows.{IsMeasured, read}
use Rattle.form_run.specs.FlatLists.{NumberLists}

-- the rows, and then those of the forms
abbrev pub all_rows : TableauRows → Basis → List (List ℤ) → TableauRows
all_rows t b forms = record { unknowns = t.unknowns; width = 0; rows = t.rows ++ map (read t b) forms }

-- the forms' rows can be read off the places' rows, none of the forms has a norm greater than `most`, and there is a list
-- as long as a form for each column. It is the form of the column's quantity, of which nothing is said: a cut's form that is
-- made of these lists is tested
pub record IsHeld (t : TableauRows) (b : Basis) (forms columns : NumberLists) (most : ℕ) : Type 0 where
  pub basis : IsMeasured t b
  pub size : forms.size ≡ t.unknowns + 1
  pub wide : All (λ f. length f ≡ t.unknowns + (0 + 1)) forms.lists
  pub norms : All (λ f. norm f ≤ most) forms.lists
  pub bound : most * b.most < 2 ^ 63
  pub columns_size : columns.size ≡ t.unknowns + 1
  pub columns_count : length columns.lists ≡ t.unknowns

-- the rows of the first i forms are not below 0: the first that is stands behind them
pub record IsAbove (t : TableauRows) (b : Basis) (forms : List (List ℤ)) (i : ℕ) : Type 0 where
  pub within : i ≤ length forms
  pub first : negative_from (length t.rows) (map (read t b) forms)
      ≡ negative_from (length t.rows + i) (drop i (map (read t b) forms))

-- a place among rows, k rows on
abbrev pub behind : ℕ → Option ℕ → Option ℕ
behind k None = None
behind k (Some i) = Some (k + i)

-- row r of the one tableau is the only row of the other
abbrev pub IsOneRow : TableauRows → ℕ → TableauRows → Type 0
IsOneRow t r one = one ≡ record { unknowns = t.unknowns; width = 0; rows = row_at t.rows r ∷ [] }
