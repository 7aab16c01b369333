-- What is read of an input.
use Rattle.std.specs.Prelude.{◌≡◌, ℕ, ◌<◌, ◌≤◌, List, length, Result, Ok, Err, Vec, ⊤}
use Rattle.std.specs.declared.alloc.Global.{Global}
use Rattle.pip_model.specs.Limits.{most_input_bytes}
use Rattle.item_writing.specs.declared.ending.Ending.{Ending}
use Rattle.item_writing.specs.declared.ending.Ending.TheVariants as ending

-- the whole input, within its limit, or it is too long
abbrev pub ReadsInput : Result (Vec ℕ Global) Ending → List ℕ → Type 0
ReadsInput (Ok v) input = (v.items ≡ input) × (length input ≤ most_input_bytes)
ReadsInput (Err ending.InputTooLong) input = most_input_bytes < length input
ReadsInput (Err e) input = ⊤

-- an input that is not read is too long, or a read or memory failed
abbrev pub IsOfInput : Result (Vec ℕ Global) Ending → Type 0
IsOfInput (Ok v) = ⊤
IsOfInput (Err ending.ReadFault) = ⊤
IsOfInput (Err ending.InputTooLong) = ⊤
IsOfInput (Err ending.WantOfMemory) = ⊤
IsOfInput (Err e) = ⊥
