-- A context as its forms.
use Rattle.std.specs.Prelude.{◌≡◌, ◌≤◌, ℕ, ℤ, Bool, List}

-- forms over the first `width` places or fewer of them, the room that is left for more, and whether it was tried to make
-- the run of all forms
pub record ScopedForms : Type 0 where
  pub width : ℕ
  pub forms : List (List ℤ)
  pub spare : ℕ
  pub tried : Bool

-- as before, with no less room
pub record IsKeptContext (before now : ScopedForms) : Type 0 where
  pub width : now.width ≡ before.width
  pub forms : now.forms ≡ before.forms
  pub spare : before.spare ≤ now.spare
