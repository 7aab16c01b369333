-- What is read of an answer's text.
use Rattle.std.specs.Prelude.{ℕ, Option, Some, None}
use Rattle.pip_model.specs.TreeText as text
use Rattle.quast.specs.Answers.{answer_of}
use Rattle.quast_text.specs.declared.read.Spoken.{Spoken}

-- an answer with its comment
abbrev pub spoken_of : Spoken → text.Commented
spoken_of s = record { comment = s.comment; answer = answer_of s.answer }

-- with the place behind it, or none
abbrev pub found_of : Option (Spoken × ℕ) → Option (text.Commented × ℕ)
found_of None = None
found_of (Some x) = Some (spoken_of x.0, x.1)
