-- A certificate that has to be there.
use Rattle.std.specs.Prelude.{ℕ, List, Result}
use Rattle.pip_model.specs.Certificate.{Certificate, read_certificate}
use Rattle.pip_model.specs.Reading.{◌>>=◌}
use Rattle.program_model.specs.Endings.{Ending}
use Rattle.program_model.specs.Items.{or_ending, needed}

abbrev pub needed_certificate : List ℕ → ℕ → Result (Certificate × ℕ) Ending
needed_certificate bytes place = do
  found ← or_ending (read_certificate bytes place)
  needed bytes found
