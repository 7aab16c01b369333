use Rattle.pip_words.proofs.Words.{string_bytes, app_given}
use Rattle.pip_words.proofs.Alone.{read_alone}
use Rattle.pip_words.proofs.Giving.{given_ok, given_usage}
use Rattle.pip_words.proofs.reading.read_words.Goals as goal

pub named-requires : goal.named-requires
named-requires c = c.in-Some-entry_named.ensures

pub returns-in-Some-entry_named-clause-ok : goal.returns-in-Some-entry_named-clause-ok
returns-in-Some-entry_named-clause-ok c = let at = c.in-Some.ensures.lookup in
    given_ok _ _ c.named.result
    (read_alone string_bytes c.args.words.now.items _ c.in-Some.word.now c.as_str-name.result.now (app_given c.in-Some-entry_named.entry)
    c.as_slice-words.ensures.value at.3.0 at.1 c.as_str-name.ensures.value c.in-Some-entry_named.ensures) c.named.ensures

pub returns-in-Some-entry_named-clause-usage : goal.returns-in-Some-entry_named-clause-usage
returns-in-Some-entry_named-clause-usage c = let at = c.in-Some.ensures.lookup in
    given_usage _ _ c.named.result
    (read_alone string_bytes c.args.words.now.items _ c.in-Some.word.now c.as_str-name.result.now (app_given c.in-Some-entry_named.entry)
    c.as_slice-words.ensures.value at.3.0 at.1 c.as_str-name.ensures.value c.in-Some-entry_named.ensures) c.named.ensures
