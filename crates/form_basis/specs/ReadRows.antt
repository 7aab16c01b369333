-- Rows of forms that are read off the places' rows.
use Rattle.std.specs.Prelude.{◌≡◌, ℕ, ◌+◌, ◌*◌, ◌^◌, ◌<◌, ℤ, ◌+ℤ◌, ◌*ℤ◌, List, length}
use Rattle.pip_model.specs.Forms.{entry, dot}
use Rattle.pip_model.specs.Rows.{Row}
use Rattle.row_laws.specs.Tableaus.{TableauRows}
use Rattle.form_laws.specs.ByForm.{coef, place, over, combination, by_form}
use Rattle.form_laws.specs.Bounds.{norm}
use Rattle.form_laws.specs.Columns.{IsBasis}
use Rattle.form_basis.specs.declared.basis.Basis.{Basis}

-- the numbers of the basis are those of the rows
abbrev pub IsMeasured : TableauRows → Basis → Type 0
IsMeasured t b = IsBasis t.unknowns 0 t.rows b.scale b.most b.columns.items

-- the form's row can be read off the rows by the numbers of the basis
pub record IsRead (t : TableauRows) (b : Basis) (f : List ℤ) : Type 0 where
  pub basis : IsMeasured t b
  pub wide : length f ≡ t.unknowns + (0 + 1)
  pub bound : norm f * b.most < 2 ^ 63

-- coefficient k of the form's row before it is divided, and its constant
abbrev pub summed : TableauRows → Basis → List ℤ → ℕ → ℤ
summed t b f k = dot f (over b.scale (coef k) t.rows)

abbrev pub valued : TableauRows → Basis → List ℤ → ℤ
valued t b f = dot f (over b.scale (place 0) t.rows) +ℤ b.scale *ℤ entry f t.unknowns

-- the form's row, before it is divided by its greatest common divisor, and then
abbrev pub combined : TableauRows → Basis → List ℤ → Row
combined t b f = combination t.unknowns 0 b.scale t.rows f

abbrev pub read : TableauRows → Basis → List ℤ → Row
read t b f = by_form t.unknowns 0 b.scale t.rows f
