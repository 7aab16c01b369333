-- What the search for a fraction tells of a row.
use Rattle.std.specs.Prelude.{◌≡◌, List}
use Rattle.pip_model.specs.Forms.{coefficients}
use Rattle.pip_model.specs.Rows.{Row, row_at, is_whole}
use Rattle.gomory_cut.specs.declared.fractions.FractionRow.{FractionRow}

-- it tells whether the row's denominator divides the coefficients
abbrev pub IsFractionOf : List Row → FractionRow → Type 0
IsFractionOf rows f = f.in_constant ≡ is_whole (row_at rows f.row).den (coefficients (row_at rows f.row).constant)
