-- What is made before it is an answer.
use Rattle.std.specs.Prelude.{ℕ, ◌+◌, ◌^◌, ◌<◌, ℤ, List, Option, Some, None}
use Rattle.pip_model.specs.Contexts.{IsContext}
use Rattle.pip_model.specs.Limits.{most_nesting}
use Rattle.pip_model.specs.Printed.{IsPrintableAnswer}
use Rattle.pip_model.specs.Tree as model
use Rattle.pip_model.specs.WellFormed.{IsWellFormedAnswer}
use Rattle.quast.specs.Trees.{tree_of}
use Rattle.quast.specs.declared.node.Node.{Node}

-- a node as an answer; none is void
abbrev pub node_answer : Option Node → model.Answer
node_answer None = model.Void
node_answer (Some t) = model.Solved (tree_of t)

-- rows that are a context over w places, and an answer over these
pub record AreGiven (w : ℕ) (rows : List (List ℤ)) (a : model.Answer) : Type 0 where
  pub context : IsContext w rows
  pub small : w + most_nesting < 2 ^ 127
  pub printable : IsPrintableAnswer w a
  pub well_formed : IsWellFormedAnswer w a
