-- The words that a line begins with.
use Rattle.std.specs.Prelude.{ℕ, List, codes}
use Rattle.item_writing.specs.declared.line.Line.{Line}
use Rattle.item_writing.specs.declared.line.Line.TheVariants as line

abbrev pub words_of : Line → List ℕ
words_of (line.Words words z) = words.now
words_of (line.Place words s) = words.now
words_of (line.Lengths a b) = codes "lists of "
