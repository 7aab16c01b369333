-- The components of a list.
use Rattle.std.specs.Prelude.{◌≡◌, ℕ, ◌<◌, pos, IsTrue, List, [], ◌∷◌}
use Rattle.pip_model.specs.Forms.{width, entry}
use Rattle.pip_model.specs.Tree.{Component, is_component}
use Rattle.pip_model.specs.Printed.{component_fits}

-- over w places, in lowest terms, with numbers that fit
pub record IsComponent (w : ℕ) (c : Component) : Type 0 where
  pub scoped : IsTrue (is_component w c)
  pub fits : IsTrue (component_fits c)

-- the number of places that the first of the components is over
abbrev pub width_of : List Component → ℕ
width_of [] = 0
width_of (c ∷ cs) = width c.form

-- the component's form has a coefficient i, and it is 0
pub record LacksPlace (i : ℕ) (c : Component) : Type 0 where
  pub within : i < width c.form
  pub zero : entry c.form i ≡ pos 0
