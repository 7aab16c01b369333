-- The way to a node of a tree.
use Rattle.std.specs.Prelude.{ℕ, ◌+◌, ℤ, List, [], ◌∷◌, ◌++◌, length}
use Rattle.pip_model.specs.Cuts.{Quotient, lower_bound, upper_bound}
use Rattle.pip_model.specs.Made.{PathQuotient}

-- the number of parameters and quotients in scope, the forms of the path, and its quotients
pub record TrailForms : Type 0 where
  pub scope : ℕ
  pub forms : List (List ℤ)
  pub quotients : List PathQuotient

-- below the definition of a quotient
abbrev pub below_quotient : TrailForms → List ℤ → ℤ → TrailForms
below_quotient q v d =
    let k : Quotient = record { form = v; den = d } in
    record {
      scope = q.scope + 1;
      forms = q.forms ++ lower_bound (q.scope + 1) q.scope k ∷ upper_bound (q.scope + 1) q.scope k ∷ [];
      quotients = q.quotients ++ record { quotient = k; bound = length q.forms + 1 } ∷ [];
    }
