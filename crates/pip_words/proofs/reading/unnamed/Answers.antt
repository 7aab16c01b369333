use Rattle.pip_words.proofs.Words.{refl, map, string_bytes}
use Rattle.pip_words.proofs.Giving.{given_at, given_refusal}
use Rattle.pip_words.proofs.Parsed.{accepted, refused}
use Rattle.pip_words.proofs.reading.unnamed.Goals as goal

pub returns-in-Ok : goal.returns-in-Ok
returns-in-Ok c =
    let parsed = c.in-Ok.ensures in
    given_at _ _ c.command.result
    (accepted _ (map string_bytes c.args.words.now) _ c.in-Ok.matches c.in_ok-pip.ensures refl parsed.kinds parsed.matches) c.command.ensures

pub returns-in-Err : goal.returns-in-Err
returns-in-Err c =
    given_refusal _ c.refusal.result
    (λ u. refused _ (map string_bytes c.args.words.now) _ c.in-Err.error c.in_ok-pip.ensures refl c.in-Err.ensures.kinds (c.refusal.ensures u))
