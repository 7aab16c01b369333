use Rattle.pip_words.proofs.Words.{rules}
use Rattle.pip_words.proofs.Alone.{entry_found}
use Rattle.pip_words.proofs.commands.entry_named.Goals as goal

pub returns : goal.returns
returns c = search (rules, entry_found)
