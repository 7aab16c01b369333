-- A component that is read.
use Rattle.std.specs.Prelude.{ℤ, Vec}
use Rattle.std.specs.declared.alloc.Global.{Global}
use Rattle.pip_model.specs.Tree.{Component}

-- the numerators over the denominator
abbrev pub component_of_parts : ℤ × Vec ℤ Global → Component
component_of_parts x = record { den = x.0; form = x.1.items }
