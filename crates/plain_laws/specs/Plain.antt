-- The run of rows without parameters, in either mode, and that of a problem of such rows.
use Rattle.std.specs.Prelude.{ℕ, ℤ, Bool, List, []}
use Rattle.pip_model.specs.Rows.{Row}
use Rattle.pip_model.specs.Run.{Setting, Node, class, constant_class}

-- a problem without parameters
abbrev pub problem_setting : ℕ → Bool → Setting
problem_setting n integer = record { unknowns = n; params = 0; integer = integer; class = class }

-- rows alone: a form is its constant
abbrev pub plain_setting : ℕ → Bool → Setting
plain_setting n integer = record { unknowns = n; params = 0; integer = integer; class = constant_class }

-- a node of rows alone, over a context of which no form is looked at
abbrev pub node_over : List (List ℤ) → List Row → Node
node_over K rows = record { rows = rows; context = K; quotients = []; depth = 0 }
