-- Why a problem is not read from a window.
use Rattle.std.specs.Prelude.{ℕ, ◌+◌}
use Rattle.pip_outside.specs.declared.window.FillRefusal.{FillRefusal}
use Rattle.pip_outside.specs.declared.window.FillRefusal.TheVariants as fill
use Rattle.pip_problem.specs.declared.refusal.ReadRefusal.{ReadRefusal}
use Rattle.pip_problem.specs.declared.refusal.ReadRefusal.TheVariants as read
use Rattle.pip_stream.specs.declared.refusal.NextRefusal.{NextRefusal}
use Rattle.pip_stream.specs.declared.refusal.NextRefusal.TheVariants as next

abbrev pub not_filled : FillRefusal → NextRefusal
not_filled fill.Failed = next.Failed
not_filled fill.WantOfMemory = next.WantOfMemory

-- the place that a refusal tells, or 0
abbrev pub place_told : ReadRefusal → ℕ
place_told (read.Syntax place) = place
place_told (read.Wide place) = place
place_told e = 0

-- the refusal of a text that stands behind so many bytes
abbrev pub refused_behind : ℕ → ReadRefusal → NextRefusal
refused_behind before (read.Syntax place) = next.Read (read.Syntax (before + place))
refused_behind before (read.Wide place) = next.Read (read.Wide (before + place))
refused_behind before read.WantOfMemory = next.WantOfMemory
refused_behind before e = next.Read e
