-- Forms in lanes whose norm is bounded.
use Rattle.std.specs.Prelude.{ℕ, ◌≤◌, ℤ, List, All}
use Rattle.form_laws.specs.Bounds.{norm}
use Rattle.lanes.specs.Narrow.{AreLanes}

-- a form in lanes, whose sizes add up to no more than a number
pub record IsWithin (most : ℕ) (form : List ℤ) : Type 0 where
  pub lanes : AreLanes form
  pub norm : norm form ≤ most

abbrev pub AreWithin : ℕ → List (List ℤ) → Type 0
AreWithin most forms = All (IsWithin most) forms
