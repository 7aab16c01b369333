use Rattle.short_row.proofs.Words.{◌≡◌, ◌∙◌, ap, arith, replicate, pos, ℕ, ◌+◌, length, places_of}
use Rattle.short_row.proofs.UnitNumbers.{unit_numbers}
use Rattle.short_row.proofs.row.put_unit.Goals as goal

pub returns : goal.returns
returns c =
    let size : length c.args.row.now ≡ c.args.unknowns + 2 + places_of c.args.unknowns c.args.row.now = omega (arith, c.requires.size) in
    unit_numbers c.args.unknowns (places_of c.args.unknowns c.args.row.now) c.args.c c.args.row.now (c.requires.zeros ∙ ap (λ (k : ℕ). replicate k (pos 0)) size) c.requires.column
