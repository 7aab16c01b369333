-- The held bytes of an input, and what a call that fills them does.
use Rattle.std.specs.Prelude.{◌≡◌, ◌+◌, ◌≤◌, ℕ, List, ◌++◌, length, max, Option, Result, Ok, Err}
use Rattle.std.specs.Io.KnownBytes.{Consumes, IsAtEnd, Keeps}
use Rattle.pip_outside.specs.declared.window.FillRefusal.{FillRefusal}

-- the held bytes, how many were dropped before them, and the most that were held since the last restart
pub record HeldBytes : Type 0 where
  pub held : List ℕ
  pub base : ℕ
  pub peak : ℕ

-- these bytes stand behind those that were held
abbrev pub held_more : HeldBytes → List ℕ → HeldBytes
held_more w piece = record { held = w.held ++ piece; base = w.base; peak = max w.peak (length w.held + length piece) }

-- n bytes came from the bytes told, no more than these and 4,096; 0 only at their end
pub record Gains (most : ℕ) (told left : Option (List ℕ)) (n : ℕ) (old new : HeldBytes) : Type 0 where
  pub piece : List ℕ
  pub bound : (n ≤ most) × (n ≤ 4096)
  pub count : length piece ≡ n
  pub held : new ≡ held_more old piece
  pub consumed : Consumes told left piece
  pub end : n ≡ 0 → IsAtEnd left

-- what comes stands behind the held bytes; a call that is refused takes nothing and leaves these
abbrev pub FillsFrom : ℕ → Option (List ℕ) → Option (List ℕ) → Result ℕ FillRefusal → HeldBytes → HeldBytes → Type 0
FillsFrom most told left (Ok n) old new = Gains most told left n old new
FillsFrom most told left (Err e) old new = Keeps told left × (new ≡ old)
