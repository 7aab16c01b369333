-- How a run without a command ends, and what is promised where the outside tells.
use Rattle.std.specs.Prelude.{List, ℕ, Option, IfSome, Result, Err, ⊤}
use Rattle.program_model.specs.Commands.{Command}
use Rattle.item_writing.specs.declared.ending.Ending.{Ending}
use Rattle.item_writing.specs.declared.ending.Ending.TheVariants as ending
use Rattle.item_writing.specs.Outputs.{bytes_read}

-- the words are refused, or the memory for them
abbrev pub IsWordsEnding : Result (Unit {0}) Ending → Type 0
IsWordsEnding (Err ending.Usage) = ⊤
IsWordsEnding (Err ending.WantOfMemory) = ⊤
IsWordsEnding r = ⊥

-- where the words give a command, and the bytes that it reads are told
abbrev pub WhereTold : Option Command → Option (List ℕ) → (Command → List ℕ → Type 0) → Type 0
WhereTold o left P = IfSome o (λ c. IfSome (bytes_read c left) (P c))
