use Rattle.pip_words.proofs.Words.{◌≡◌, ◌∙◌, length, arith, string_bytes, app_given}
use Rattle.pip_words.proofs.Alone.{bare_alone, simple_alone}
use Rattle.pip_words.proofs.reading.named.Goals as goal

pub returns-in-Some : goal.returns-in-Some
returns-in-Some c =
    let one : length c.args.words.now ≡ 1 = grind arith in
    bare_alone string_bytes c.args.words.now c.args.name.now (app_given c.args.entry) one c.requires ∙ c.in-Some.ensures

pub parsed-requires : goal.parsed-requires
parsed-requires c = simple_alone c.args.name.now (app_given c.args.entry) c.requires
