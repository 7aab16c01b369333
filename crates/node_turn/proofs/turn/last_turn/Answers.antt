use Rattle.node_turn.proofs.Words.{◌≡◌, ◌∙◌, sym, ap, ℕ, Option, None, if◌then◌else◌}
use Rattle.pip_model.specs.Rows.{first_fraction, fraction_from}
use Rattle.node_turn.proofs.FirstRows.{take-made}
use Rattle.node_turn.proofs.turn.last_turn.Goals as goal

pub returns-in-Some-clause-gives : goal.returns-in-Some-clause-gives
returns-in-Some-clause-gives c =
    let t = c.args.rows.now in
    let made = c.made.result.now in
    let first : first_fraction made.unknowns made.rows ≡ first_fraction t.unknowns t.rows = ap (λ (n : ℕ). first_fraction n made.rows) c.made.ensures.unknowns ∙ ap (fraction_from 0) (take-made made.rows t.rows t.unknowns c.made.ensures.rows (c.made.ensures.least c.requires.rows)) in
    let found = sym (ap (λ (o : Option ℕ). if c.args.path.now.integer then o else None) first) ∙ sym c.in-Some.ensures.value in
    rw found c.cut_made.ensures.gives
