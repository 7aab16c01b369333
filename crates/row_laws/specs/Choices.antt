-- The choice of the entering column, candidate by candidate.
use Rattle.std.specs.Prelude.{ℕ, ◌-◌, ◌<◌, ℤ, pos, ◌≤ℤ◌, ◌*ℤ◌, nat_eq, Option, Some, None, List, [], length, filter, if◌then◌else◌}
use Rattle.pip_model.specs.Numbers.{is_positive}
use Rattle.pip_model.specs.Forms.{entry}
use Rattle.pip_model.specs.Rows.{Row, row_at, count_from, cross_products, up_to_difference, is_better, best, best_listed, entering_of, entering_of_listed}

-- the product for column k at row i, which is compared with that for column b
abbrev pub product_at : List Row → ℕ → Row → ℕ → ℕ → ℤ
product_at rows i p k b = entry (row_at rows i).coefs k *ℤ entry p.coefs b

-- the coefficient of column k in the row of column c
abbrev pub unit_entry : ℕ → ℕ → ℤ
unit_entry c k = if nat_eq c k then pos 1 else pos 0

-- the products that tell whether k is better than b
abbrev pub compared : List Row → Row → ℕ → ℕ → List ℤ
compared unknowns p k b = up_to_difference (cross_products unknowns p k b) (cross_products unknowns p b k)

-- the best so far, or none, and then k
abbrev pub better : List Row → Row → Option ℕ → ℕ → ℕ
better unknowns p None k = k
better unknowns p (Some b) k = if is_better unknowns p k b then k else b

abbrev pub better_listed : List Row → Row → Option ℕ → ℕ → List ℤ
better_listed unknowns p None k = []
better_listed unknowns p (Some b) k = compared unknowns p k b

-- the best so far, or none, and then all of these
abbrev pub choice : List Row → Row → Option ℕ → List ℕ → Option ℕ
choice unknowns p None ks = entering_of unknowns p ks
choice unknowns p (Some b) ks = Some (best unknowns p b ks)

abbrev pub choice_listed : List Row → Row → Option ℕ → List ℕ → List ℤ
choice_listed unknowns p None ks = entering_of_listed unknowns p ks
choice_listed unknowns p (Some b) ks = best_listed unknowns p b ks

-- the candidates from column k on
abbrev pub candidates_from : Row → ℕ → List ℕ
candidates_from p k = filter (λ j. is_positive (entry p.coefs j)) (count_from k (length p.coefs - k))

-- column k is one of the n columns, and row p is positive in it
pub record IsCandidate (n : ℕ) (p : Row) (k : ℕ) : Type 0 where
  pub column : k < n
  pub positive : pos 1 ≤ℤ entry p.coefs k
