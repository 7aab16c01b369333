-- How a run ends where its words are refused, or the next problem is not read.
use Rattle.pip_words.specs.declared.refusal.WordsRefusal.{WordsRefusal}
use Rattle.pip_words.specs.declared.refusal.WordsRefusal.TheVariants as words
use Rattle.pip_stream.specs.declared.refusal.NextRefusal.{NextRefusal}
use Rattle.pip_stream.specs.declared.refusal.NextRefusal.TheVariants as next
use Rattle.item_writing.specs.declared.ending.Ending.{Ending}
use Rattle.item_writing.specs.declared.ending.Ending.TheVariants as ending

abbrev pub words_ending : WordsRefusal → Ending
words_ending words.Usage = ending.Usage
words_ending words.WantOfMemory = ending.WantOfMemory

abbrev pub next_ending : NextRefusal → Ending
next_ending (next.Read e) = ending.Problem e
next_ending next.Failed = ending.ReadFault
next_ending next.InputBytes = ending.InputTooLong
next_ending next.WantOfMemory = ending.WantOfMemory
