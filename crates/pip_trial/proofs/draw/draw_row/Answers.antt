use Rattle.pip_trial.proofs.Words.{◌≡◌, [], ◌∷◌, ◌++◌, arith, rules, length-append, All-push, Fits}
use Rattle.pip_trial.proofs.Draws.{row_made, row_draws}
use Rattle.pip_trial.proofs.draw.draw_row.Goals as goal

pub from_entries-requires : goal.from_entries-requires
from_entries-requires c =
    let both = c.push_coefficients-2.new.entries.items in
    let z = c.draw_number-constant.result in
    let pushed : c.push.new.self.items ≡ c.push_coefficients-2.new.entries.items ++ c.draw_number-constant.result ∷ [] = search rules in
    rw pushed (record {
      some = simp length-append (omega arith);
      fits = All-push Fits both z c.in_ok-push_coefficients-2.ensures.fits c.draw_number-constant.ensures.fits;
    })

pub returns-clause-row : goal.returns-clause-row
returns-clause-row c =
    let pushed : c.from_entries.result ≡ c.push_coefficients-2.new.entries.items ++ c.draw_number-constant.result ∷ [] = search rules in
    let first = c.in_ok-push_coefficients.ensures in
    let constant = c.draw_number-constant.ensures in
    row_made c.args.unknowns c.args.params c.args.generator.now _ _ _ _ _ _ c.draw_number-constant.result
    c.in_ok-entries.ensures.items first.items first.state constant.value constant.state c.in_ok-push_coefficients-2.ensures.items pushed

pub returns-clause-state : goal.returns-clause-state
returns-clause-state c =
    row_draws c.args.unknowns c.args.params c.args.generator.now _ _ _
    c.in_ok-push_coefficients.ensures.state c.draw_number-constant.ensures.state c.in_ok-push_coefficients-2.ensures.state
