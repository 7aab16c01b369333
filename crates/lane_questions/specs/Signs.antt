-- The sign of a form by points, as the run sees it.
use Rattle.std.specs.Prelude.{ℤ, List}
use Rattle.pip_model.specs.Run as run
use Rattle.lane_questions.specs.declared.sign.LaneSign.{LaneSign}
use Rattle.lane_questions.specs.declared.sign.LaneSign.TheVariants as code

-- the class of a form of this sign
abbrev pub class_of_sign : List ℤ → LaneSign → run.Class
class_of_sign c code.Plus = run.Plus
class_of_sign c code.Minus = run.Minus
class_of_sign c code.Unknown = run.Unknown c
