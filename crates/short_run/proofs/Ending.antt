-- Where no row is below 0 and those of the unknowns are whole, the run without parameters has a point.
use Rattle.short_run.proofs.Words.{◌≡◌, ◌∙◌, refl, ap, ℕ, zero, suc, ◌+◌, ◌≤◌, ℤ, arith, Bool, true, false, Option, Some, None, is_none, is_some, List, [], ◌∷◌, ◌++◌, length, take, if◌then◌else◌, ◌||◌, take-append-le, list_any, is_nonneg, is_positive, constant, entry, Row, row_at, candidates, entering, entering_of, entering_of_listed, first_fraction, fraction_from, Bottom, Work, Done, Closed, go_on, give, listed, leaf, turn, turn_by, last_turn, pivot_turn, numbers_of, point_setting, both, closed_run_from, falls-constant_class, negative_from, node_of, finds_point, EndsWith, signs_of, turn_is, sym, Refused, Outcome, run_from, Tree, has_point, first_rows}
use Rattle.row_laws.proofs.Choosing.{no_candidates}

numbers_are : (o : Outcome Tree) → go_on (go_on o (λ t. give (numbers_of t))) (λ p. give (is_some p)) ≡ go_on o (λ t. give (is_some (numbers_of t)))
numbers_are (Done x v) = refl
numbers_are (Refused f v) = refl

pub none_of : (o : Option ℕ) → is_none o ≡ true → o ≡ None
none_of None e = refl
none_of (Some r) e = absurd cc

negative-shift : (S : List Row) (i j : ℕ) → negative_from i S ≡ None → negative_from j S ≡ None
negative-shift [] i j e = refl
negative-shift (x ∷ S) i j e = by (is_nonneg (constant x.constant)) e (negative-shift S (i + 1) (j + 1))
  where
    by : (t : Bool) → (if t then negative_from (i + 1) S else Some i) ≡ None → (negative_from (i + 1) S ≡ None → negative_from (j + 1) S ≡ None)
        → (if t then negative_from (j + 1) S else Some j) ≡ None
    by true e later = later e
    by false e later = absurd cc

pub below_behind : (R S : List Row) (i : ℕ) → negative_from i R ≡ None → negative_from i (R ++ S) ≡ negative_from (i + length R) S
below_behind [] S i e = let s : i ≡ i + 0 = omega arith in ap (λ (j : ℕ). negative_from j S) s
below_behind (x ∷ R) S i e = by (is_nonneg (constant x.constant)) e (below_behind R S (i + 1))
  where
    by : (t : Bool) → (if t then negative_from (i + 1) R else Some i) ≡ None → (negative_from (i + 1) R ≡ None → negative_from (i + 1) (R ++ S) ≡ negative_from ((i + 1) + length R) S)
        → (if t then negative_from (i + 1) (R ++ S) else Some i) ≡ negative_from (i + suc (length R)) S
    by true e later = let s : (i + 1) + length R ≡ i + suc (length R) = omega arith in later e ∙ ap (λ (j : ℕ). negative_from j S) s
    by false e later = absurd cc

pub finds_here : (n : ℕ) (E S : List Row) (v : Work) → n ≤ length E → negative_from 0 E ≡ None → negative_from 0 S ≡ None → first_fraction n E ≡ None → finds_point n (E ++ S) v ≡ Done true v
finds_here n E S v h e f whole =
    let rows = E ++ S in
    let closed : turn (point_setting n) (node_of rows) v ≡ Done (Closed (leaf (point_setting n) (node_of rows))) v
    = turn_is n rows v
    ∙ ap (λ o. turn_by (point_setting n) (node_of rows) (signs_of o) v) (below_behind E S 0 e ∙ negative-shift S 0 (0 + length E) f)
    ∙ ap (λ o. last_turn (point_setting n) (node_of rows) o v) (ap (fraction_from 0) (take-append-le n E S h) ∙ whole) in
    ap (λ o. go_on o (λ t. give (is_some (numbers_of t)))) (closed_run_from (point_setting n) falls-constant_class (node_of rows) v v (leaf (point_setting n) (node_of rows)) closed)

-- whether forms have a point, by the run of their first rows
pub alone_is : (n : ℕ) (K : List (List ℤ)) (w : Work) → has_point n K w ≡ finds_point n (first_rows n K) w
alone_is zero [] w = sym (finds_here 0 [] [] w (omega arith) refl refl refl)
alone_is zero (c ∷ K) w = numbers_are (run_from (point_setting 0) (node_of (first_rows 0 (c ∷ K))) w)
alone_is (suc n) K w = numbers_are (run_from (point_setting (suc n)) (node_of (first_rows (suc n) K)) w)

-- ---- one row behind them

pub only : (rows : List Row) → length rows ≡ 1 → row_at rows 0 ∷ [] ≡ rows
only (r ∷ []) h = refl
only _ h = absurd (omega arith)

-- behind rows from 0 on the point stays
pub ends_above : (now : List Row) → negative_from 0 now ≡ None → EndsWith now true
ends_above now none n E v h e =
    let parts = both (is_none (negative_from 0 E)) (is_none (first_fraction n E)) e in
    finds_here n E now v h (none_of (negative_from 0 E) parts.0) none (none_of (first_fraction n E) parts.1)

-- at a row below 0 in which no column is positive, there is none
neither : (a b : Bool) → (a || b) ≡ false → (a ≡ false) × (b ≡ false)
neither true b e = absurd cc
neither false b e = (refl, e)

no_entry : (cs : List ℤ) (k : ℕ) → list_any is_positive cs ≡ false → is_positive (entry cs k) ≡ false
no_entry [] k e = refl
no_entry (c ∷ cs) zero e = (neither (is_positive c) (list_any is_positive cs) e).0
no_entry (c ∷ cs) (suc k) e = no_entry cs k ((neither (is_positive c) (list_any is_positive cs) e).1)

pub none_enters : (p : Row) → list_any is_positive p.coefs ≡ false → candidates p ≡ []
none_enters p e = no_candidates p (λ k. no_entry p.coefs k e)

-- so the run ends there without a point
module _ (n : ℕ) (rows : List Row) (r : ℕ) (below : negative_from 0 rows ≡ Some r) (free : candidates (row_at rows r) ≡ []) where
  abbrev p : Row
  p = row_at rows r

  pub no_column : entering rows r ≡ None
  no_column = ap (λ (ks : List ℕ). entering_of (take (length p.coefs) rows) p ks) free

  pub closes : (v : Work) → turn (point_setting n) (node_of rows) v ≡ Done (Closed Bottom) v
  closes v =
      turn_is n rows v
      ∙ ap (λ o. turn_by (point_setting n) (node_of rows) (signs_of o) v) below
      ∙ ap (λ (ks : List ℕ). go_on (listed (entering_of_listed (take (length p.coefs) rows) p ks) v) (λ done. pivot_turn (point_setting n) (node_of rows) r (entering_of (take (length p.coefs) rows) p ks))) free

  pub finds_none : (v : Work) → finds_point n rows v ≡ Done false v
  finds_none v = ap (λ o. go_on o (λ t. give (is_some (numbers_of t)))) (closed_run_from (point_setting n) falls-constant_class (node_of rows) v v Bottom (closes v))
