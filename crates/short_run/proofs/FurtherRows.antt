-- Rows behind all others: while another is below 0 they are not chosen, so the pivots are the same with them and without them.
use Rattle.short_run.proofs.Words.{◌≡◌, ◌∙◌, refl, ap, sym, ℕ, ◌+◌, ◌<◌, ◌≤◌, ℤ, arith, List, [], ◌∷◌, ◌++◌, length, map, take, drop, Bool, true, false, ◌&&◌, Some, flat_map, if◌then◌else◌, map-append, append_assoc, take-append-le, drop-append-le, append-nil, flat_map-append, fits, is_nonneg, constant, all_fit, Row, row_at, other_rows, pivot, pivot_listed, entering, entering_listed, eliminated, eliminated_listed, Setting, Node, Again, MinusAt, Work, go_on, give, listed, turn, turn_by, count_pivot, point_setting, negative_from, node_of, get_or_append_left, form_row, length-map, signs_of, turn_is, set-append_left, list_all-append}

pub row_at-front : (R S : List Row) (r : ℕ) → r < length R → row_at (R ++ S) r ≡ row_at R r
row_at-front R S r h = get_or_append_left R S (form_row 0 []) r h

module _ (R S : List Row) (r : ℕ) (h : r < length R) where
  -- the same column enters, and by the same comparisons
  pub entering-front : length (row_at R r).coefs ≤ length R → entering (R ++ S) r ≡ entering R r
  entering-front k = rw (row_at-front R S r h, take-append-le (length (row_at R r).coefs) R S k) refl

  entering_listed-front : length (row_at R r).coefs ≤ length R → entering_listed (R ++ S) r ≡ entering_listed R r
  entering_listed-front k = rw (row_at-front R S r h, take-append-le (length (row_at R r).coefs) R S k) refl

  -- the rows in front become what they become without the others
  pivot-front : (c : ℕ) → pivot (R ++ S) r c ≡ pivot R r c ++ map (eliminated (row_at R r) c) S
  pivot-front c =
      rw (row_at-front R S r h, map-append (eliminated (row_at R r) c) R S)
      (set-append_left (map (eliminated (row_at R r) c) R) (map (eliminated (row_at R r) c) S) r _ (omega (arith, h, length-map R (eliminated (row_at R r) c))))

  others : other_rows (R ++ S) r ≡ other_rows R r ++ S
  others =
      rw (take-append-le r R S (omega arith), drop-append-le (r + 1) R S (omega arith)) (sym (append_assoc (take r R) (drop (r + 1) R) S))

  pivot_listed-front : (c : ℕ) → pivot_listed (R ++ S) r c ≡ pivot_listed R r c ++ flat_map (eliminated_listed (row_at R r) c) S
  pivot_listed-front c = rw (row_at-front R S r h, others) (flat_map-append (eliminated_listed (row_at R r) c) (other_rows R r) S)

pub all_fit-append : (xs ys : List ℤ) → all_fit (xs ++ ys) ≡ (all_fit xs && all_fit ys)
all_fit-append xs ys = list_all-append fits xs ys

-- a turn at a row in front, whose own numbers are known to fit: it counts a pivot, checks the further rows' numbers, and turns them
turn-front : (S : Setting) (N : Node) (R F : List Row) (r c : ℕ) (w : Work)
    → r < length R → length (row_at R r).coefs ≤ length R
    → entering R r ≡ Some c → all_fit (entering_listed R r) ≡ true → all_fit (pivot_listed R r c) ≡ true
    → turn_by S (record N { rows = R ++ F }) (MinusAt r) w
    ≡ go_on (count_pivot w) (λ counted v. go_on (listed (flat_map (eliminated_listed (row_at R r) c) F) v)
    (λ checked. give (Again (record N { rows = pivot R r c ++ map (eliminated (row_at R r) c) F }))))
turn-front S N R F r c w h k e enters fit =
    let last : all_fit (pivot_listed (R ++ F) r c) ≡ all_fit (flat_map (eliminated_listed (row_at R r) c) F)
    = ap all_fit (pivot_listed-front R F r h c)
    ∙ all_fit-append (pivot_listed R r c) (flat_map (eliminated_listed (row_at R r) c) F)
    ∙ ap (λ (b : Bool). b && all_fit (flat_map (eliminated_listed (row_at R r) c) F)) fit in
    rw (entering_listed-front R F r h k, enters, entering-front R F r h k, e, last, pivot-front R F r h c) refl

pub negative-front : (R S : List Row) (i r : ℕ) → negative_from i R ≡ Some r → negative_from i (R ++ S) ≡ Some r
negative-front [] S i r e = absurd cc
negative-front (x ∷ R) S i r e = by (is_nonneg (constant x.constant)) e (negative-front R S (i + 1) r)
  where
    by : (t : Bool) → (if t then negative_from (i + 1) R else Some i) ≡ Some r → (negative_from (i + 1) R ≡ Some r → negative_from (i + 1) (R ++ S) ≡ Some r)
        → (if t then negative_from (i + 1) (R ++ S) else Some i) ≡ Some r
    by true e later = later e
    by false e later = e

-- a pivot of the run of these rows at the first row below 0, with numbers that fit
pub record IsStep (R : List Row) (r c : ℕ) : Type 0 where
  pub below : negative_from 0 R ≡ Some r
  pub within : r < length R
  pub columns : length (row_at R r).coefs ≤ length R
  pub enters : entering R r ≡ Some c
  pub compared : all_fit (entering_listed R r) ≡ true
  pub fits : all_fit (pivot_listed R r c) ≡ true

-- with further rows behind, it turns them
pub turn-behind : (n : ℕ) (R F : List Row) (r c : ℕ) (w : Work) → IsStep R r c
    → turn (point_setting n) (node_of (R ++ F)) w
    ≡ go_on (count_pivot w) (λ counted v. go_on (listed (flat_map (eliminated_listed (row_at R r) c) F) v)
    (λ checked. give (Again (node_of (pivot R r c ++ map (eliminated (row_at R r) c) F)))))
turn-behind n R F r c w is =
    turn_is n (R ++ F) w
    ∙ ap (λ o. turn_by (point_setting n) (node_of (R ++ F)) (signs_of o) w) (negative-front R F 0 r is.below)
    ∙ turn-front (point_setting n) (node_of []) R F r c w is.within is.columns is.enters is.compared is.fits

-- so without any behind
pub turn-alone : (n : ℕ) (R : List Row) (r c : ℕ) (w : Work) → IsStep R r c
    → turn (point_setting n) (node_of R) w ≡ go_on (count_pivot w) (λ counted. give (Again (node_of (pivot R r c))))
turn-alone n R r c w is =
    ap (λ (rows : List Row). turn (point_setting n) (node_of rows) w) (sym (append-nil R))
    ∙ turn-behind n R [] r c w is
    ∙ ap (λ (rows : List Row). go_on (count_pivot w) (λ counted. give (Again (node_of rows)))) (append-nil (pivot R r c))
