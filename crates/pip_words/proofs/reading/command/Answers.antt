use Rattle.pip_words.proofs.Words.{◌≡◌, Some, arith, common_steps, subcommand_rows_of, rows_of, found_of}
use Rattle.pip_words.proofs.reading.command.Goals as goal

pub returns-in-Some : goal.returns-in-Some
returns-in-Some c =
    let name = c.in-Some.name.now in
    let rows = rows_of (found_of c.in-Some.matches.now) in
    let is : subcommand_rows_of c.args.matches.now ≡ Some (name, rows) = grind (arith, common_steps) in
    rw is c.command_of_name.ensures
