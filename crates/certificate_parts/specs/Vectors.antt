-- The parameter vector of a certificate.
use Rattle.std.specs.Prelude.{ℤ, List, Vec, Option, Some, None}
use Rattle.std.specs.declared.alloc.Global.{Global}

-- the numbers of a vector that may be void
abbrev pub numbers_of : Option (Vec ℤ Global) → Option (List ℤ)
numbers_of None = None
numbers_of (Some v) = Some v.items
