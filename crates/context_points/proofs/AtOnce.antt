-- A context without forms or without places: its run ends at its first rows.
use Rattle.context_points.proofs.Words.{◌≡◌, ◌∙◌, refl, ap, ℕ, suc, ◌+◌, ◌-◌, ℤ, arith, Bool, true, false, ◌&&◌, Option, Some, None, is_none, List, [], ◌∷◌, length, map, take, replicate, pos, if◌then◌else◌, filter, list_all, length-map, is_nonneg, is_positive, width, coefficients, constant, entry, widen_to, Row, row_at, form_row, unit_row, count_from, fraction_from, Work, Done, length-count, negative_from, has_point, finds_point, alone_is}
use Rattle.std.specs.Prelude.{◌++◌}
use Rattle.run_laws.proofs.Scopes.{constant-end}
use Rattle.kept_run.proofs.Ending.{finds_here, finds_none}

-- ---- without forms

-- the places' rows are from 0 on, and whole
units_above : (n : ℕ) (ks : List ℕ) (i : ℕ) → negative_from i (map (unit_row n 0) ks) ≡ None
units_above n [] i = refl
units_above n (k ∷ ks) i = units_above n ks (i + 1)

units_whole : (n m : ℕ) (ks : List ℕ) (i : ℕ) → fraction_from i (take m (map (unit_row n 0) ks)) ≡ None
units_whole n (suc m) (k ∷ ks) i = units_whole n m ks (i + 1)
units_whole n _ _ i = refl

pub point_of_none : (n : ℕ) (K : List (List ℤ)) (w : Work) → length K ≡ 0 → has_point n K w ≡ Done true w
point_of_none n [] w e =
    let units : List Row = map (unit_row n 0) (count_from 0 n) in
    let many : length (map (unit_row n 0) (count_from 0 n)) ≡ n = length-map (count_from 0 n) (unit_row n 0) ∙ length-count 0 n in
    alone_is n [] w ∙ finds_here n units [] w (omega (arith, many)) (units_above n (count_from 0 n) 0) refl (units_whole n n (count_from 0 n) 0)
point_of_none n (c ∷ K) w e = absurd (omega (arith, e))

-- ---- without places

abbrev rows_of : List (List ℤ) → List Row
rows_of K = map (form_row 0) (map (widen_to 0) K)

no_coefs : (K : List (List ℤ)) (r : ℕ) → (row_at (rows_of K) r).coefs ≡ []
no_coefs (c ∷ K) (suc r) = no_coefs K r
no_coefs _ _ = refl

abbrev from_zero : List (List ℤ) → Bool
from_zero K = list_all (λ c. is_nonneg (constant c)) K

none_below : (K : List (List ℤ)) (i : ℕ) → is_none (negative_from i (rows_of K)) ≡ from_zero K
none_below [] i = refl
none_below (c ∷ K) i =
    ap (λ (z : ℤ). is_none (if is_nonneg z then negative_from (i + 1) (rows_of K) else Some i)) (constant-end (coefficients c ++ replicate (0 - width c) (pos 0)) (constant c))
    ∙ by (is_nonneg (constant c)) (none_below K (i + 1))
  where
    by : (t : Bool) → is_none (negative_from (i + 1) (rows_of K)) ≡ from_zero K → is_none (if t then negative_from (i + 1) (rows_of K) else Some i) ≡ (t && from_zero K)
    by true e = e
    by false e = refl

pub point_of_no_places : (K : List (List ℤ)) (w : Work) → has_point 0 K w ≡ Done (from_zero K) w
point_of_no_places K w = alone_is 0 K w ∙ at (negative_from 0 (rows_of K)) refl ∙ ap (λ (b : Bool). Done b w) (none_below K 0)
  where
    at : (o : Option ℕ) → negative_from 0 (rows_of K) ≡ o → finds_point 0 (rows_of K) w ≡ Done (is_none o) w
    at None e = finds_here 0 [] (rows_of K) w (omega arith) refl e refl
    at (Some r) e = finds_none 0 (rows_of K) r e (ap (λ (cs : List ℤ). filter (λ k. is_positive (entry cs k)) (count_from 0 (length cs))) (no_coefs K r)) w
