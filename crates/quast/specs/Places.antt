-- What a place in a tree stands for, and the numbers on the way to it.
use Rattle.std.specs.Prelude.{◌≡◌, ℕ, ◌+◌, ◌<◌, ◌≤◌, ℤ, All, IsTrue, length, Bool, List, [], ◌∷◌, ◌++◌, map, flat_map, Option, Some, None, if◌then◌else◌}
use Rattle.pip_model.specs.Limits.{most_components}
use Rattle.pip_model.specs.Numbers.{is_nonneg, floor_div}
use Rattle.pip_model.specs.Forms.{value}
use Rattle.pip_model.specs.Listed.{value_listed, all_fit}
use Rattle.pip_model.specs.Tree.{Tree, Bottom, Leaf, If, NewParm, Component, is_scoped, nesting}
use Rattle.pip_model.specs.Printed.{tree_fits}
use Rattle.affine_forms.specs.Checks.{Fits}
use Rattle.quast.specs.Components.{IsComponent}
use Rattle.quast.specs.declared.place.Place.{Place}
use Rattle.quast.specs.declared.place.Place.TheVariants as place

-- the components of a list with the values of their forms, or none at a bottom
abbrev pub landing_of : Place → Option (List Component × List ℤ)
landing_of place.Bottom = None
landing_of (place.At cs ns) = Some (cs.now, ns.now)

-- A list has at least one component, at most as many as the limit, and as many numbers, which fit.
pub record IsPoint (cs : List Component) (ns : List ℤ) : Type 0 where
  pub some : 0 < length cs
  pub few : length cs ≤ most_components
  pub same : length ns ≡ length cs
  pub fits : All Fits ns

abbrev pub IsLanding : Place → Type 0
IsLanding place.Bottom = Unit {0}
IsLanding (place.At cs ns) = IsPoint cs.now ns.now

-- the same, from a list and the vector that its components' forms are over
abbrev pub landed : Option (List Component × List ℤ) → Option (List Component × List ℤ)
landed None = None
landed (Some l) = Some (l.0, map (λ c. value c.form l.1) l.0)

-- the listed numbers of the forms on the path, without those of the list
abbrev pub path_listed : Tree → List ℤ → List ℤ
path_listed Bottom u = []
path_listed (Leaf cs) u = []
path_listed (If v a b) u = value_listed v u ++ (if is_nonneg (value v u) then path_listed a u else path_listed b u)
path_listed (NewParm v d a) u = value_listed v u ++ path_listed a (u ++ floor_div (value v u) d ∷ [])

-- the numbers of the component's value fit
abbrev pub value_fits : List ℤ → Component → Bool
value_fits u c = all_fit (value_listed c.form u)

-- the listed numbers of a list's forms
abbrev pub list_listed : Option (List Component × List ℤ) → List ℤ
list_listed None = []
list_listed (Some l) = flat_map (λ c. value_listed c.form l.1) l.0

-- a tree over the numbers of a vector, which has room for one more at each node of a path
pub record IsOnPath (t : Tree) (u : List ℤ) (capacity : ℕ) : Type 0 where
  pub scope : IsTrue (is_scoped (length u) t)
  pub numbers : IsTrue (tree_fits t)
  pub fits : All Fits u
  pub room : length u + nesting t ≤ capacity

-- a list has at least one component, at most as many as the limit, each over w places
pub record IsListOver (w : ℕ) (cs : List Component) : Type 0 where
  pub some : 0 < length cs
  pub few : length cs ≤ most_components
  pub components : All (IsComponent w) cs

-- one number more
pub record IsAppended (before : List ℤ) (x : ℤ) (now : List ℤ) : Type 0 where
  pub items : now ≡ before ++ x ∷ []
  pub longer : length now ≡ length before + 1

-- the values of the components' forms, which fit
pub record AreNumerators (cs : List Component) (u ns : List ℤ) : Type 0 where
  pub values : ns ≡ map (λ c. value c.form u) cs
  pub fits : All Fits ns
