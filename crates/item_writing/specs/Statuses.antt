-- The numbers of the statuses.
use Rattle.std.specs.Prelude.{ℕ}
use Rattle.program_model.specs.Endings as model
use Rattle.item_writing.specs.declared.status.Status.{Status}
use Rattle.item_writing.specs.declared.status.Status.TheVariants as status

abbrev pub number_of : Status → ℕ
number_of status.AllDone = model.all_done
number_of status.WrongWords = model.wrong_words
number_of status.WrongText = model.wrong_text
number_of status.NotSupported = model.not_supported
number_of status.NumberTooLarge = model.number_too_large
number_of status.BudgetSpent = model.budget_spent
number_of status.ReadFailed = model.read_failed
number_of status.WriteFailed = model.write_failed
number_of status.MemoryRefused = model.memory_refused
number_of status.PastLimit = model.past_limit
number_of status.NotAccepted = model.not_accepted
number_of status.QuotientNegative = model.quotient_negative
number_of status.LengthsDiffer = model.lengths_differ
