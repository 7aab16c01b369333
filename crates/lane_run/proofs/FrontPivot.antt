-- The pivot at the first row below 0, where rows of forms are read off: it is the written run's, and the forms make the rows
-- after it of the pivoted columns' rows.
use Rattle.lane_run.proofs.Words.{◌≡◌, ◌∙◌, refl, ap, sym, subst, ℕ, ◌+◌, ◌*◌, ◌^◌, ◌<◌, ◌≤◌, ℤ, pos, ◌<ℤ◌, arith, true, false, Option, Some, None, is_some, List, [], ◌∷◌, ◌++◌, length, map, take, drop, append-nil, append_assoc, length-append, All, IfSome, ints, mul-le, take-append-le, take_all, length-take-le, take-map, drop-map, drop_all, entry, Row, row_at, eliminated, pivot, pivot_listed, entering, entering_of, entering_listed, candidates, Work, Outcome, Done, Refused, Refusal, Again, go_on, give, count_pivot, turn, point_setting, again_run, refused_run_from, falls-constant_class, norm, AllShort, Kept, Form, Whole, by_form, made, rows_by, turned, IsWide, AllWide, IsOver, MadeBy, row_wide, pivot_made, kept_of, AreScaled, ScaledTable, finds_point, negative_from, node_of, finds_no_column, pivot_refused, row_of, IsNarrowTable, IsEntering, IsPivoted, run_rows, AreModest, IsRowBelow, IsStep, negative-front, row_at-front, turn-alone, numbers_of}
use Rattle.pip_model.specs.Listed.{all_fit}
use Rattle.form_laws.proofs.Within.{all_wide, all_over}
use Rattle.scaled_laws.proofs.Within.{rows_are_short, are_made, made_kept, none_refused, comparison_refused, scaled_front, scaled_back}

-- ---- a turn that counts a pivot, and the run from there

pub counts_and_goes_on : (n : ℕ) (rows now : List Row) (w : Work) → turn (point_setting n) (node_of rows) w ≡ go_on (count_pivot w) (λ counted. give (Again (node_of now)))
    → finds_point n rows w ≡ go_on (count_pivot w) (λ counted. finds_point n now)
counts_and_goes_on n rows now w e = by (count_pivot w) e
  where
    by : (o : Outcome (Unit {0})) → turn (point_setting n) (node_of rows) w ≡ go_on o (λ counted. give (Again (node_of now))) → finds_point n rows w ≡ go_on o (λ counted. finds_point n now)
    by (Done x v) e = ap (λ o. go_on o (λ t. give (is_some (numbers_of t)))) (again_run (point_setting n) falls-constant_class (node_of rows) (node_of now) w v e)
    by (Refused f v) e = ap (λ o. go_on o (λ t. give (is_some (numbers_of t)))) (refused_run_from (point_setting n) falls-constant_class (node_of rows) w v f e)

-- ---- the column that enters at a row

entering_by : (n : ℕ) (rows basis : List Row) (r : ℕ) (p : Row) → row_at rows r ≡ p → length p.coefs ≡ n → take n rows ≡ basis → entering rows r ≡ entering_of basis p (candidates p)
entering_by n rows basis r p e long front =
    ap (λ (q : Row). entering_of (take (length q.coefs) rows) q (candidates q)) e
    ∙ ap (λ (k : ℕ). entering_of (take k rows) p (candidates p)) long
    ∙ ap (λ (b : List Row). entering_of b p (candidates p)) front

-- ---- a pivot of what is kept

kept_turned : (p : Row) (c : ℕ) (F : List (List ℤ)) (more : List Row) → map (turned p c) (kept_of F more) ≡ kept_of F (map (eliminated p c) more)
kept_turned p c [] [] = refl
kept_turned p c [] (r ∷ more) = ap (λ (ks : List Kept). Whole (eliminated p c r) ∷ ks) (kept_turned p c [] more)
kept_turned p c (f ∷ F) more = ap (λ (ks : List Kept). Form f ∷ ks) (kept_turned p c F more)

small_product : (a m : ℕ) → a < 2 ^ 31 → m < 2 ^ 31 → a * m < 2 ^ 63
small_product a m h k = omega (arith, mul-le a m (2 ^ 31) (2 ^ 31) (omega (arith, h)) (omega (arith, k)))

module _ (t : ScaledTable) (p : List ℤ) (table : IsNarrowTable t) (F : List (List ℤ)) (modest : AreModest t.unknowns F) (below : IsRowBelow t F p) where
  abbrev n : ℕ
  n = t.unknowns

  abbrev basis : List Row
  basis = take t.unknowns t.rows

  abbrev more : List Row
  more = drop t.unknowns t.rows

  abbrev rows : List Row
  rows = run_rows t F

  size : length basis ≡ n
  size = length-take-le t.unknowns t.rows table.enough

  front : AreScaled n 0 t.scale t.most basis
  front = scaled_front n 0 t.scale t.most n t.rows table.rows

  back : AreScaled n 0 t.scale t.most more
  back = scaled_back n 0 t.scale t.most n t.rows table.rows

  wide : All (λ f. length f ≡ n + (0 + 1)) F
  wide k d lt = (modest k d lt).long

  small : All (λ f. norm f * t.most < 2 ^ 63) F
  small k d lt = small_product (norm _) t.most (modest k d lt).norm table.narrow

  more_wide : AllWide n 0 more
  more_wide = all_wide n 0 t.scale more back.each

  more_short : AllShort n more
  more_short = rows_are_short n 0 t.scale t.most more back

  same : basis ++ (map (by_form n 0 t.scale basis) F ++ more) ≡ rows
  same = ap (λ (xs : List Row). basis ++ xs) (sym (made_kept n 0 basis t.scale t.most size front t.scale basis F more))

  is_made : MadeBy n 0 basis (kept_of F more) rows
  is_made = subst (MadeBy n 0 basis (kept_of F more)) same (are_made n 0 basis t.scale t.most size front F more wide more_wide)

  row_is_wide : IsWide n 0 (row_at rows below.place)
  row_is_wide = row_wide n 0 basis (kept_of F more) rows below.place is_made below.within

  enough : n ≤ length rows
  enough = omega (arith, size, length-append basis (map (made n 0 t.scale basis) (kept_of F more)))

  compared : all_fit (entering_listed rows below.place) ≡ true
  compared = subst (λ (xs : List Row). (r : ℕ) → r < length xs → all_fit (entering_listed xs r) ≡ true) same
      (λ r lt. comparison_refused n 0 basis t.scale t.most size front F more wide more_wide small more_short r lt) below.place below.within

  columns_first : take n rows ≡ basis
  columns_first = take-append-le n basis (map (made n 0 t.scale basis) (kept_of F more)) (omega (arith, size)) ∙ take_all n basis (omega (arith, size))

  row_of_wide : length (row_of t p).coefs ≡ n
  row_of_wide = ap (λ (r : Row). length r.coefs) below.same ∙ row_is_wide.coefs

  entering_here : entering rows below.place ≡ entering_of basis (row_of t p) (candidates (row_of t p))
  entering_here = entering_by n rows basis below.place (row_of t p) (sym below.same) row_of_wide columns_first

  module _ (c : ℕ) (enters : IsEntering t p (Some c)) where
    fits : all_fit (pivot_listed rows below.place c) ≡ true
    fits = subst (λ (xs : List Row). (r : ℕ) → r < length xs → all_fit (pivot_listed xs r c) ≡ true) same
        (λ r lt. none_refused n 0 basis t.scale t.most size front F more wide more_wide small more_short r c lt enters.candidate.column) below.place below.within

    -- it is a step of the run
    pub front_step : IsStep rows below.place c
    front_step = record {
      below = below.first;
      within = below.within;
      columns = omega (arith, row_is_wide.coefs, enough);
      enters = entering_here ∙ sym enters.column;
      compared = compared;
      fits = fits;
    }

    above : pos 0 <ℤ entry (row_at rows below.place).coefs c
    above = subst (λ (r : Row). pos 0 <ℤ entry r.coefs c) below.same (omega (arith, ints, enters.candidate.positive))

    abbrev g : Row → Row
    g = eliminated (row_at rows below.place) c

    module _ (now : ScaledTable) (is : IsPivoted t now p c) where
      rows_now : now.rows ≡ map g t.rows
      rows_now = is.rows ∙ ap (λ (r : Row). map (eliminated r c) t.rows) below.same

      basis_now : take now.unknowns now.rows ≡ map g basis
      basis_now = ap (λ (k : ℕ). take k now.rows) is.unknowns ∙ ap (take n) rows_now ∙ take-map g n t.rows

      more_now : drop now.unknowns now.rows ≡ map g more
      more_now = ap (λ (k : ℕ). drop k now.rows) is.unknowns ∙ ap (drop n) rows_now ∙ drop-map g n t.rows

      over_now : IsOver now.scale (map g basis)
      over_now =
          let front_now = scaled_front now.unknowns 0 now.scale now.most now.unknowns now.rows is.table.rows in
          subst (IsOver now.scale) basis_now (all_over now.unknowns 0 now.scale (take now.unknowns now.rows) front_now.each)

      -- after it the forms make the other rows of the pivoted columns' rows
      pub front_pivot : pivot rows below.place c ≡ run_rows now F
      front_pivot =
          (pivot_made n 0 basis (kept_of F more) rows below.place c is_made below.within enters.candidate.column above).is now.scale (omega (arith, ints, is.table.rows.positive)) over_now
          ∙ ap (rows_by n 0 now.scale (map g basis)) (kept_turned (row_at rows below.place) c F more)
          ∙ ap (λ (xs : List Row). rows_by n 0 now.scale xs (kept_of F (map g more))) (sym basis_now)
          ∙ ap (λ (xs : List Row). rows_by n 0 now.scale (take now.unknowns now.rows) (kept_of F xs)) (sym more_now)
          ∙ ap (λ (k : ℕ). rows_by k 0 now.scale (take now.unknowns now.rows) (kept_of F (drop now.unknowns now.rows))) (sym is.unknowns)

-- ---- the turn at the first row below 0

pub front_closes : (t : ScaledTable) (p : List ℤ) (F : List (List ℤ)) (w : Work) → IsEntering t p None → AreModest t.unknowns F → IsRowBelow t F p → finds_point t.unknowns (run_rows t F) w ≡ Done false w
front_closes t p F w enters modest below =
    finds_no_column t.unknowns (run_rows t F) below.place below.first w (entering_here t p enters.table F modest below ∙ sym enters.column)

pub front_refused : (t : ScaledTable) (p : List ℤ) (c : ℕ) (w v : Work) (o : Option Refusal) → IsEntering t p (Some c) → IfSome o (λ f. count_pivot w ≡ Refused f v)
    → IfSome o (λ f. (F : List (List ℤ)) → AreModest t.unknowns F → IsRowBelow t F p → turn (point_setting t.unknowns) (node_of (run_rows t F)) w ≡ Refused f v)
front_refused t p c w v None enters h = h
front_refused t p c w v (Some f) enters h = λ F modest below.
    let table = enters.table in
    pivot_refused t.unknowns (run_rows t F) below.place below.first c w v (Some f) (compared t p table F modest below) (entering_here t p table F modest below ∙ sym enters.column) h

pub front_turn : (t now : ScaledTable) (p : List ℤ) (c : ℕ) (F : List (List ℤ)) (w : Work) → IsPivoted t now p c → AreModest t.unknowns F → IsRowBelow t F p
    → turn (point_setting t.unknowns) (node_of (run_rows t F)) w ≡ go_on (count_pivot w) (λ counted. give (Again (node_of (run_rows now F))))
front_turn t now p c F w is modest below =
    turn-alone t.unknowns (run_rows t F) below.place c w (front_step t p is.enters.table F modest below c is.enters)
    ∙ ap (λ (xs : List Row). go_on (count_pivot w) (λ counted. give (Again (node_of xs)))) (front_pivot t p is.enters.table F modest below c is.enters now is)

pub front_goes_on : (t now : ScaledTable) (p : List ℤ) (c : ℕ) (F : List (List ℤ)) (w v : Work) → IsPivoted t now p c → AreModest t.unknowns F → IsRowBelow t F p → count_pivot w ≡ Done tt v
    → turn (point_setting t.unknowns) (node_of (run_rows t F)) w ≡ Done (Again (node_of (run_rows now F))) v
front_goes_on t now p c F w v is modest below e = front_turn t now p c F w is modest below ∙ ap (λ o. go_on o (λ counted. give (Again (node_of (run_rows now F))))) e

pub front_finds : (t now : ScaledTable) (p : List ℤ) (c : ℕ) (F : List (List ℤ)) (w : Work) → IsPivoted t now p c → AreModest t.unknowns F → IsRowBelow t F p
    → finds_point t.unknowns (run_rows t F) w ≡ go_on (count_pivot w) (λ counted. finds_point t.unknowns (run_rows now F))
front_finds t now p c F w is modest below = counts_and_goes_on t.unknowns (run_rows t F) (run_rows now F) w (front_turn t now p c F w is modest below)

-- ---- further forms behind, where there are no cuts

made_further : (n : ℕ) (L : ℤ) (basis : List Row) (F M : List (List ℤ)) → map (made n 0 L basis) (kept_of (F ++ M) []) ≡ map (made n 0 L basis) (kept_of F []) ++ map (made n 0 L basis) (map Form M)
made_further n L basis [] M = ap (map (made n 0 L basis)) (append-nil (map Form M))
made_further n L basis (f ∷ F) M = ap (λ (xs : List Row). by_form n 0 L basis f ∷ xs) (made_further n L basis F M)

pub rows_further : (t : ScaledTable) (F M : List (List ℤ)) → length t.rows ≡ t.unknowns
    → run_rows t (F ++ M) ≡ run_rows t F ++ map (made t.unknowns 0 t.scale (take t.unknowns t.rows)) (map Form M)
rows_further t F M alone =
    let n = t.unknowns in
    let basis = take t.unknowns t.rows in
    let none : drop t.unknowns t.rows ≡ [] = drop_all t.unknowns t.rows (omega (arith, alone)) in
    ap (λ (xs : List Row). rows_by n 0 t.scale basis (kept_of (F ++ M) xs)) none
    ∙ ap (λ (xs : List Row). basis ++ xs) (made_further n t.scale basis F M)
    ∙ sym (append_assoc basis (map (made n 0 t.scale basis) (kept_of F [])) (map (made n 0 t.scale basis) (map Form M)))
    ∙ ap (λ (xs : List Row). rows_by n 0 t.scale basis (kept_of F xs) ++ map (made n 0 t.scale basis) (map Form M)) (sym none)

-- the first row below 0 stays the first
pub below_further : (t : ScaledTable) (F M : List (List ℤ)) (p : List ℤ) → length t.rows ≡ t.unknowns → IsRowBelow t F p → IsRowBelow t (F ++ M) p
below_further t F M p alone below =
    let behind = map (made t.unknowns 0 t.scale (take t.unknowns t.rows)) (map Form M) in
    let is = sym (rows_further t F M alone) in
    record {
      place = below.place;
      first = subst (λ (xs : List Row). negative_from 0 xs ≡ Some below.place) is (negative-front (run_rows t F) behind 0 below.place below.first);
      within = subst (λ (xs : List Row). below.place < length xs) is (omega (arith, below.within, length-append (run_rows t F) behind));
      lanes = below.lanes;
      unused = below.unused;
      same = below.same ∙ sym (row_at-front (run_rows t F) behind below.place below.within) ∙ ap (λ (xs : List Row). row_at xs below.place) is;
    }
