-- Rows that are kept behind those of the columns.
use Rattle.std.specs.Prelude.{ℤ, List, ◌++◌, map}
use Rattle.pip_model.specs.Rows.{Row}
use Rattle.form_laws.specs.ByForm.{Kept, Form, Whole}

-- forms, and then rows as they are
abbrev pub kept_of : List (List ℤ) → List Row → List Kept
kept_of forms more = map Form forms ++ map Whole more
