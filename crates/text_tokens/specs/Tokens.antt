-- Words of the contracts on tokens.
use Rattle.std.specs.Prelude.{◌≡◌, ◌<◌, ◌==◌, ℕ, ℤ, pos, neg_ℤ, List, slice_index, Option, Some, None, if◌then◌else◌, ⊤}
use Rattle.pip_model.specs.declared.Kind.{Kind}
use Rattle.pip_model.specs.declared.Kind.TheVariants.{Number, Fraction, Finish}
use Rattle.pip_model.specs.Numbers.{fits}
use Rattle.affine_forms.specs.Checks.{Fits}

-- z where it fits
abbrev pub fitting : ℤ → Option ℤ
fitting z = if fits z then Some z else None

-- n, or its opposite behind a `-`
abbrev pub signed_as : List ℕ → ℕ → ℤ
signed_as bytes n = if slice_index bytes 0 == 45 then neg_ℤ (pos n) else pos n

-- the numbers of a token fit
abbrev pub IsFittingKind : Kind → Type 0
IsFittingKind (Number z) = Fits z
IsFittingKind (Fraction n d) = Fits n × Fits d
IsFittingKind _ = ⊤

-- a token takes a byte at least, but the end takes none
abbrev pub TakesBytes : Kind → ℕ → ℕ → Type 0
TakesBytes Finish start after = start ≡ after
TakesBytes _ start after = start < after
