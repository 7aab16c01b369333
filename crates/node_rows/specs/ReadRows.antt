-- Rows of forms that are read off the unknowns' rows.
use Rattle.std.specs.Prelude.{◌≡◌, ℕ, ◌+◌, ◌*◌, ◌^◌, ◌<◌, ℤ, ◌+ℤ◌, ◌*ℤ◌, List, length, map, ◌++◌}
use Rattle.pip_model.specs.Forms.{entry, dot}
use Rattle.pip_model.specs.Rows.{Row}
use Rattle.tableau.specs.Tableaus.{TableauRows}
use Rattle.form_laws.specs.ByForm.{coef, place, over, combination, by_form}
use Rattle.form_laws.specs.Bounds.{norm}
use Rattle.form_laws.specs.Columns.{IsBasis}
use Rattle.node_rows.specs.declared.basis.Basis.{Basis}

-- the form's row can be read off the rows by the numbers of the basis
pub record IsRead (t : TableauRows) (b : Basis) (f : List ℤ) : Type 0 where
  pub basis : IsBasis t.unknowns t.width t.rows b.scale b.most b.columns.items
  pub wide : length f ≡ t.unknowns + (t.width + 1)
  pub bound : norm f * b.most < 2 ^ 63

-- coefficient k of the form's row before it is divided, and entry m of its constant form
abbrev pub summed : TableauRows → Basis → List ℤ → ℕ → ℤ
summed t b f k = dot f (over b.scale (coef k) t.rows)

abbrev pub placed : TableauRows → Basis → List ℤ → ℕ → ℤ
placed t b f m = dot f (over b.scale (place m) t.rows) +ℤ b.scale *ℤ entry f (t.unknowns + m)

-- the form's row, before it is divided by its greatest common divisor, and then
abbrev pub combined : TableauRows → Basis → List ℤ → Row
combined t b f = combination t.unknowns t.width b.scale t.rows f

abbrev pub read : TableauRows → Basis → List ℤ → Row
read t b f = by_form t.unknowns t.width b.scale t.rows f

-- the rows, and then those of the forms
abbrev pub all_rows : TableauRows → Basis → List (List ℤ) → TableauRows
all_rows t b forms = record t { rows = t.rows ++ map (read t b) forms }
