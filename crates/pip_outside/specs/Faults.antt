-- Counts of faults.
use Rattle.std.specs.Prelude.{◌≡◌, ℕ, ◌+◌, ◌-◌, ◌^◌, ◌≤◌, min}

-- the count rose, or stands at its last value
abbrev pub HasRisen : ℕ → ℕ → Type 0
HasRisen before now = min (before + 1) (2 ^ 64 - 1) ≤ now

-- The count never falls: a call that fails has raised it, and any other leaves it.
pub record CountsFaults (Fails : Type 0) (before now : ℕ) : Type 0 where
  pub later : before ≤ now
  pub cause : Fails → HasRisen before now
  pub quiet : ¬ Fails → now ≡ before
