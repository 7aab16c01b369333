use Rattle.pip_words.proofs.Words.{map, string_bytes, app_given}
use Rattle.pip_words.proofs.Giving.{given_at, given_refusal}
use Rattle.pip_words.proofs.Parsed.{accepted_alone, refused_alone}
use Rattle.pip_words.proofs.reading.parsed.Goals as goal

pub returns-in-Ok : goal.returns-in-Ok
returns-in-Ok c =
    let parsed = c.in-Ok.ensures in
    given_at _ _ c.command_of_name.result (accepted_alone (app_given c.args.entry) _ c.args.name.now (map string_bytes c.args.words.now) c.in-Ok.matches c.in_ok-command.ensures.made
    c.requires parsed.kinds parsed.matches) c.command_of_name.ensures

pub returns-in-Err : goal.returns-in-Err
returns-in-Err c =
    given_refusal _ c.refusal.result
    (λ u. refused_alone (app_given c.args.entry) _ c.args.name.now (map string_bytes c.args.words.now) c.in-Err.error c.in_ok-command.ensures.made
    c.requires c.in-Err.ensures.kinds (c.refusal.ensures u))
