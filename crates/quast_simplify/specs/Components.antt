-- Components that are the same, and trees that a coefficient can be dropped from.
use Rattle.std.specs.Prelude.{ℕ, ◌<◌, Bool, ◌&&◌, All, ⊤}
use Rattle.pip_model.specs.Numbers.{same_number}
use Rattle.pip_model.specs.Forms.{width, same_form}
use Rattle.pip_model.specs.Tree.{Tree, Bottom, Leaf, If, NewParm, Component}
use Rattle.quast.specs.Components.{LacksPlace}

abbrev pub same_component : Component → Component → Bool
same_component c d = same_number c.den d.den && same_form c.form d.form

-- each form has a coefficient i, and those of the lists are 0
abbrev pub TreeLacksPlace : ℕ → Tree → Type 0
TreeLacksPlace i Bottom = ⊤
TreeLacksPlace i (Leaf cs) = All (LacksPlace i) cs
TreeLacksPlace i (If v a b) = (i < width v) × TreeLacksPlace i a × TreeLacksPlace i b
TreeLacksPlace i (NewParm v d a) = (i < width v) × TreeLacksPlace i a
