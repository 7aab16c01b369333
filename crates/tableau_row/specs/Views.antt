-- The row that a view lends.
use Rattle.std.specs.Prelude.{Bool}
use Rattle.pip_model.specs.Rows.{Row}
use Rattle.tableau_row.specs.declared.view.RowView.{RowView}

abbrev pub row_of : RowView → Row
row_of v = record { den = v.den; coefs = v.coefs.now; constant = v.constant.now }

-- whether all its numbers are known to be short
abbrev pub is_known_short : RowView → Bool
is_known_short v = v.short
