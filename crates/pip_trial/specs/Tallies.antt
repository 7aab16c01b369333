-- What a tally may count.
use Rattle.std.specs.Prelude.{ℕ, ◌+◌, ◌<◌, ◌^◌}
use Rattle.pip_model.specs.Tree.{Answer, Void, Solved, size}
use Rattle.program_model.specs.Trial.{Tally}

abbrev pub none_counted : Tally
none_counted = record { lists = 0; bottoms = 0; quotients = 0; refused = 0 }

-- each count may rise by k
pub record HasRoom (k : ℕ) (n : Tally) : Type 0 where
  pub lists : n.lists + k < 2 ^ 128
  pub bottoms : n.bottoms + k < 2 ^ 128
  pub quotients : n.quotients + k < 2 ^ 128
  pub refused : n.refused + k < 2 ^ 128

-- the nodes of an answer's tree
abbrev pub answer_size : Answer → ℕ
answer_size Void = 0
answer_size (Solved t) = size t
