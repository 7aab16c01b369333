-- The values that clap gives are those of its rows.
use Rattle.clap.proofs.WalkLemmas.{first_value-rows, raw_values-rows}

pub ruleset value_rows = (first_value-rows, raw_values-rows)
