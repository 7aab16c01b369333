-- What a refutation has in common with the run of a point.
use Rattle.std.specs.Prelude.{◌≡◌, ℤ, List, Option, Some, None}
use Rattle.pip_model.specs.Certificate.{Refutation}
use Rattle.pip_model.specs.Run.{Outcome, Done, Refused}

-- the outcomes of a point and of a refutation: one of the two is none, and what was counted is the same; or the
-- same refusal
abbrev pub IsRefutedPoint : Outcome (Option (List ℤ)) → Outcome (Option Refutation) → Type 0
IsRefutedPoint (Done (Some p) x) (Done None y) = x ≡ y
IsRefutedPoint (Done (Some p) x) (Done (Some ss) y) = ⊥
IsRefutedPoint (Done None x) (Done None y) = ⊥
IsRefutedPoint (Done None x) (Done (Some ss) y) = x ≡ y
IsRefutedPoint (Done o x) (Refused f y) = ⊥
IsRefutedPoint (Refused e x) (Done o y) = ⊥
IsRefutedPoint (Refused e x) (Refused f y) = (e ≡ f) × (x ≡ y)
