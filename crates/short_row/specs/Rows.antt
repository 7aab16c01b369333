-- The row that a view lends.
use Rattle.pip_model.specs.Rows.{Row}
use Rattle.short_row.specs.declared.row.ShortRow.{ShortRow}

abbrev pub row_of : ShortRow → Row
row_of v = record { den = v.den; coefs = v.coefs.now; constant = v.constant.now }
