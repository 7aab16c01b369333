-- What the answer that is made keeps to.
use Rattle.std.specs.Prelude.{ℕ, ◌≤◌}
use Rattle.pip_model.specs.WellFormed.{IsWellFormedAnswer}
use Rattle.quast.specs.Answers.{answer_of, IsOver}
use Rattle.quast.specs.declared.answer.Answer.{Answer}
use Rattle.quast_walk.specs.Readings.{answer_nesting}

-- an answer whose tree is well formed, over w parameters, and nested no deeper than so much
pub record IsWithinLimits (w most : ℕ) (a : Answer) : Type 0 where
  pub well_formed : IsWellFormedAnswer w (answer_of a)
  pub scope : IsOver w a
  pub nested : answer_nesting a ≤ most
