use Rattle.pip_words.proofs.Words.{◌≡◌, drop, find, bytes_eq}
use Rattle.pip_words.proofs.arguments.first_named.Given as goal

abbrev pub invariant-loop-entry : goal.invariant-loop-entry
invariant-loop-entry l =
    find (λ entry. bytes_eq entry.name.now l.name) (drop l.entry-index l.entries) ≡ find (λ entry. bytes_eq entry.name.now l.name) l.entries
