-- Which row of a point's run is the first below 0.
use Rattle.std.specs.Prelude.{◌≡◌, ℕ, ◌*◌, ◌^◌, ◌<◌, ℤ, Bool, true, false, List, length, map, take}
use Rattle.pip_model.specs.Numbers.{is_nonneg}
use Rattle.pip_model.specs.Forms.{constant}
use Rattle.pip_model.specs.Rows.{Row, row_at, divided}
use Rattle.form_laws.specs.Bounds.{norm}
use Rattle.form_laws.specs.ByForm.{by_form, combination, place}
use Rattle.scaled_laws.specs.Scaled.{row_over}
use Rattle.scaled_laws.specs.Tables.{ScaledTable}
use Rattle.lanes.specs.Narrow.{AreLanes}
use Rattle.lane_rows.specs.Laned.{numbers_of, AreUnused}
use Rattle.lane_run.specs.Runs.{forms_of}

-- the constant of a row without parameters is at least 0
abbrev pub is_not_below : Row → Bool
is_not_below r = is_nonneg (constant r.constant)

abbrev pub AreNotBelow : List Row → Type 0
AreNotBelow rows = (j : ℕ) → j < length rows → is_not_below (row_at rows j) ≡ true

-- these lanes are the numbers of the first of these rows that is below 0
pub record IsFirstRowBelow (t : ScaledTable) (rows : List Row) (row : List ℤ) : Type 0 where
  pub place : ℕ
  pub within : place < length rows
  pub below : is_not_below (row_at rows place) ≡ false
  pub before : (j : ℕ) → j < place → is_not_below (row_at rows j) ≡ true
  pub lanes : AreLanes row
  pub unused : AreUnused t.unknowns row
  pub same : divided (row_over t.unknowns t.scale (numbers_of t.unknowns row)) ≡ row_at rows place

-- the rows that these forms in lanes make of the columns' rows
abbrev pub made_rows : ScaledTable → List (List ℤ) → List Row
made_rows t forms = map (by_form t.unknowns 0 t.scale (take t.unknowns t.rows)) (forms_of t.unknowns forms)

-- the constant of the row that such a form makes, over the table's denominator
abbrev pub value_of : ScaledTable → List ℤ → ℤ
value_of t form = place 0 (combination t.unknowns 0 t.scale (take t.unknowns t.rows) (numbers_of t.unknowns form))

-- a form in lanes, of whose row no number passes 31 bits where no number of the columns' rows passes `most`
pub record IsReadBy (most : ℕ) (form : List ℤ) : Type 0 where
  pub lanes : AreLanes form
  pub bound : norm form * most < 2 ^ 31
