-- Where the entries of known forms stand among the numbers of all.
use Rattle.std.specs.Prelude.{◌≤◌, ℤ, List, length, slice_range}
use Rattle.node_turn.specs.Known.{NonnegativeForm}
use Rattle.node_turn.specs.declared.known.NonnegativePlace.{NonnegativePlace}

-- the form whose entries stand at a place, with its counts
abbrev pub form_at : List ℤ → NonnegativePlace → NonnegativeForm
form_at numbers place = record { form = slice_range numbers place.start place.end; counts = place.counts }

-- the place lies among the numbers
pub record IsPlaceIn (numbers : List ℤ) (place : NonnegativePlace) : Type 0 where
  pub order : place.start ≤ place.end
  pub bound : place.end ≤ length numbers
