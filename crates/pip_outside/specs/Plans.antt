-- Which calls of a source or a sink in memory fail, and how much each moves.
use Rattle.std.specs.Prelude.{ℕ, ◌+◌, ◌-◌, ◌^◌, min, List}
use Rattle.std.specs.List.{Contains}

-- a call moves at most `piece` bytes; the calls whose numbers, from 0, stand in `fails` fail; `call` is the number
-- of the next one
pub record CallPlan : Type 0 where
  pub piece : ℕ
  pub fails : List ℕ
  pub call : ℕ

-- the plan before the first call
abbrev pub first_plan : ℕ → List ℕ → CallPlan
first_plan piece fails = record { piece = piece; fails = fails; call = 0 }

-- the next call is one that fails
abbrev pub FailsNext : CallPlan → Type 0
FailsNext p = Contains p.fails p.call

-- the plan after a call: the number rises, up to 2^64 - 1
abbrev pub after_call : CallPlan → CallPlan
after_call p = record p { call = min (p.call + 1) (2 ^ 64 - 1) }
