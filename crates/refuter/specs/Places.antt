-- The indices of the forms of a refutation's places.
use Rattle.std.specs.Prelude.{ℤ, List, ◌++◌}
use Rattle.pip_model.specs.Refuting.{indices}
use Rattle.refuter.specs.declared.places.PlaceRuns.{PlaceRuns}

-- the parameters', then the quotients', then the unknowns'
abbrev pub indices_of : PlaceRuns → List ℤ
indices_of r = indices 0 r.params ++ indices r.first_quotient r.quotients ++ indices r.first_unknown r.unknowns
