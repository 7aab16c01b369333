-- An answer that has to be there.
use Rattle.std.specs.Prelude.{ℕ}
use Rattle.pip_model.specs.TreeText as text
use Rattle.quast_text.specs.Spoken.{spoken_of}
use Rattle.quast_text.specs.declared.read.Spoken.{Spoken}

-- an answer with its comment, and the place behind it
abbrev pub spoken_found : Spoken × ℕ → text.Commented × ℕ
spoken_found x = (spoken_of x.0, x.1)
