-- What a comparison in memory stands for.
use Rattle.std.specs.Prelude.{◌≡◌, ℕ, length, ⊤}
use Rattle.pip_model.specs.Tools as model
use Rattle.same.specs.declared.sameness.Sameness.{Sameness}
use Rattle.same.specs.declared.sameness.Sameness.TheVariants as code

abbrev pub sameness_of : Sameness → model.Sameness
sameness_of code.Same = model.Same
sameness_of (code.Differ p) = model.Differ p

-- the vector at which they differ has w numbers
abbrev pub DiffersOver : ℕ → Sameness → Type 0
DiffersOver w code.Same = ⊤
DiffersOver w (code.Differ p) = length p ≡ w
