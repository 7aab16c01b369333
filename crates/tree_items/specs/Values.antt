-- The value of an answer, or the refusal of a number that does not fit.
use Rattle.std.specs.Prelude.{ℤ, List, [], ◌∷◌, Result, Ok, Err, if◌then◌else◌}
use Rattle.pip_model.specs.Listed.{all_fit}
use Rattle.pip_model.specs.Run.{Overflow}
use Rattle.pip_model.specs.Tree.{Tree, Component, reduced, Answer, tree_value}
use Rattle.pip_model.specs.Values.{tree_value_listed, value_tree, answer_at, answer_at_listed}
use Rattle.program_model.specs.Endings.{Ending, refusal_ending}

-- each number over its component's denominator, in lowest terms
abbrev pub ratios_of : List Component → List ℤ → List Component
ratios_of [] ns = []
ratios_of (c ∷ cs) [] = []
ratios_of (c ∷ cs) (n ∷ ns) = reduced c.den (n ∷ []) ∷ ratios_of cs ns

abbrev pub tree_valued : Tree → List ℤ → Result Tree Ending
tree_valued t u =
    if all_fit (tree_value_listed t u) then Ok (value_tree (tree_value t u)) else Err (refusal_ending Overflow)

abbrev pub valued : Answer → List ℤ → Result Answer Ending
valued a u = if all_fit (answer_at_listed a u) then Ok (answer_at a u) else Err (refusal_ending Overflow)
