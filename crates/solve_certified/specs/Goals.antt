-- Over which places the refutations of a leaf are.
use Rattle.std.specs.Prelude.{ℕ, ◌+◌, nat_lt, List, length, Option, Some, None, if◌then◌else◌}
use Rattle.pip_model.specs.Problem.{Problem}
use Rattle.pip_model.specs.Tree.{Component}

-- over how many unknowns refutation r is, from 0: over none where a row or a component of a list is below 0
abbrev pub unknowns_at : Problem → Option (List Component) → ℕ → ℕ
unknowns_at P None r = P.unknowns
unknowns_at P (Some cs) r = if nat_lt r (length P.rows + length cs) then 0 else P.unknowns
