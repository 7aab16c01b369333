-- The frames that wait for the trees of a run.
use Rattle.std.specs.Prelude.{ℕ, List}
use Rattle.pip_solve.specs.declared.pending.Frame.{Frame}

-- the frames, the one pushed last first, and how many may wait
pub record Waiting : Type 0 where
  pub frames : List Frame
  pub most : ℕ
