-- What an answer in memory stands for.
use Rattle.std.specs.Prelude.{◌≡◌, ℕ, ⊤}
use Rattle.pip_model.specs.Tree as model
use Rattle.quast.specs.declared.answer.Answer.{Answer}
use Rattle.quast.specs.declared.answer.Answer.TheVariants as answer

abbrev pub answer_of : Answer → model.Answer
answer_of answer.Void = model.Void
answer_of (answer.Tree q) = model.Solved q.tree

-- the answer's tree is over w parameters
abbrev pub IsOver : ℕ → Answer → Type 0
IsOver w answer.Void = ⊤
IsOver w (answer.Tree q) = q.width ≡ w
