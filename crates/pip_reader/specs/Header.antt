-- The numbers of a problem's head, in two steps: the sizes, and the mode.
use Rattle.std.specs.Prelude.{ℕ, Bool, not, List, Ok}
use Rattle.pip_model.specs.declared.LimitKind.{LimitKind}
use Rattle.pip_model.specs.declared.LimitKind.TheVariants.{Unknowns, Parameters, Rows, ContextRows}
use Rattle.pip_model.specs.Limits.{most_unknowns, most_params, most_rows, most_context_rows}
use Rattle.pip_model.specs.Numbers.{is_zero}
use Rattle.pip_model.specs.Reading.{Reads, ◌>>=◌, number, within, no_big_parameter}
use Rattle.pip_reader.specs.declared.header.Sizes.{Sizes}

-- a number from `low` to `high`
unfoldable pub size : List ℕ → LimitKind → ℕ → ℕ → ℕ → Reads ℕ
size bytes kind low high place = do
  n ← number bytes place
  within kind low high n

abbrev pub sizes : List ℕ → ℕ → Reads Sizes
sizes bytes place = do
  unknowns ← size bytes Unknowns 1 most_unknowns place
  params ← size bytes Parameters 0 most_params unknowns.1
  rows ← size bytes Rows 0 most_rows params.1
  context_rows ← size bytes ContextRows 0 most_context_rows rows.1
  Ok (record { unknowns = unknowns.0; params = params.0; rows = rows.0; context_rows = context_rows.0 }, context_rows.1)

abbrev pub mode : List ℕ → ℕ → Reads Bool
mode bytes place = do
  big ← number bytes place
  flag ← no_big_parameter big
  integer ← number bytes flag
  Ok (not (is_zero integer.0), integer.1)
