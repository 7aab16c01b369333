-- What is told of an ending: its status, and its line as words and numbers behind them.
use Rattle.std.specs.Prelude.{ℤ, List, [], ◌∷◌, ◌++◌, ℕ, codes, decimal, Option, Some, None}
use Rattle.std.specs.Fmt.{signed_decimal}
use Rattle.program_model.specs.Endings.{Ending, spot_text}
use Rattle.certificate_check.specs.Faults.{spot_of}
use Rattle.item_writing.specs.Statuses.{number_of}
use Rattle.item_writing.specs.declared.line.Told.{Told}
use Rattle.item_writing.specs.declared.line.Line.{Line}
use Rattle.item_writing.specs.declared.line.Line.TheVariants as line
use Rattle.item_writing.specs.declared.line.Part.{Part}
use Rattle.item_writing.specs.declared.line.Part.TheVariants as part

abbrev pub part_text : Part → List ℕ
part_text (part.Words words) = words.now
part_text (part.Count n) = decimal n
part_text (part.Number z) = signed_decimal z

-- parts one behind the other
abbrev pub parts_text : List Part → List ℕ
parts_text [] = []
parts_text (p ∷ ps) = part_text p ++ parts_text ps

-- words, and a number behind them, if there is one
abbrev pub numbered : List ℕ → Option ℤ → List ℕ
numbered words None = words
numbered words (Some z) = words ++ signed_decimal z

abbrev pub line_of : Line → List ℕ
line_of (line.Words words z) = numbered words.now z
line_of (line.Place words s) = words.now ++ spot_text (spot_of s)
line_of (line.Lengths a b) = codes "lists of " ++ decimal a ++ codes " and " ++ decimal b ++ codes " components"

-- the ending that the status and the line tell
abbrev pub ending_told : Told → Ending
ending_told t = record { status = number_of t.status; line = line_of t.line }
