-- Where a run shows a point, the first pivot with a row behind its own.
use Rattle.kept_run.proofs.Words.{◌≡◌, ◌∙◌, refl, ap, sym, ℕ, ◌+◌, ◌≤◌, arith, Bool, true, Option, Some, None, is_none, is_some, IsTrue, IfSome, List, [], ◌∷◌, ◌++◌, length, flat_map, append-nil, length-append, length-map, drop_all, all_fit, Row, row_at, form_row, unit_row, other_rows, entering, entering_listed, pivot, eliminated_listed, first_fraction, Work, Done, Refused, Refusal, turn, go_on, give, count_pivot, numbers_of, point_setting, again_run, refused_run_from, falls-constant_class, both, negative_from, node_of, is_end, finds_point, take_at, get_or_at, IsPivotBehind, none_of, IsStep}
use Rattle.short_run.specs.Ended.{IsEndedBy, turned_by}
use Rattle.short_run.proofs.Places.{pivot_sides}
use Rattle.kept_run.proofs.EndingBehind.{negative-behind}
use Rattle.short_run.proofs.EndedRows.{finds_ended}
use Rattle.short_run.proofs.QuestionTurns.{pivot_goes_on, pivot_refused}

module _ (n : ℕ) (E : List Row) (R : Row) (c : ℕ) (long : n ≤ length E) (end : is_end n E ≡ true) (is : IsPivotBehind n E (R ∷ []) c) where
  here : row_at (E ++ R ∷ []) (length E) ≡ R
  here = get_or_at E R [] (form_row 0 []) (length E) refl

  whole : length (E ++ R ∷ []) ≡ length E + 1
  whole = length-append E (R ∷ [])

  others : other_rows (E ++ R ∷ []) (length E) ≡ E
  others = rw (take_at E (R ∷ []) (length E) refl, (drop_all (length E + 1) (E ++ R ∷ []) (omega (arith, whole)))) (append-nil E)

  same_place : length E + 0 ≡ length E
  same_place = omega arith

  enters : entering (E ++ R ∷ []) (length E) ≡ Some c
  enters = ap (entering (E ++ R ∷ [])) (sym same_place) ∙ is.enters

  compared : all_fit (entering_listed (E ++ R ∷ []) (length E)) ≡ true
  compared = ap (λ (k : ℕ). all_fit (entering_listed (E ++ R ∷ []) k)) (sym same_place) ∙ is.compared

  first : negative_from 0 (E ++ R ∷ []) ≡ Some (length E)
  first =
      let none = none_of (negative_from 0 E) (both (is_none (negative_from 0 E)) (is_none (first_fraction n E)) end).0 in
      negative-behind E (R ∷ []) 0 0 none (rw is.below refl) ∙ ap Some (omega arith)

  refused_at : (w v : Work) (o : Option Refusal) → IfSome o (λ f. turn (point_setting n) (node_of (E ++ R ∷ [])) w ≡ Refused f v) → IfSome o (λ f. finds_point n (E ++ R ∷ []) w ≡ Refused f v)
  refused_at w v None e = e
  refused_at w v (Some f) e =
      ap (λ o. go_on o (λ t. give (is_some (numbers_of t)))) (refused_run_from (point_setting n) falls-constant_class (node_of (E ++ R ∷ [])) w v f e)

  one_refused : (w v : Work) (o : Option Refusal) → IfSome o (λ f. count_pivot w ≡ Refused f v) → IfSome o (λ f. finds_point n (E ++ R ∷ []) w ≡ Refused f v)
  one_refused w v o e = refused_at w v o (pivot_refused n (E ++ R ∷ []) (length E) first c w v o compared enters e)

  module _ (fits : all_fit (flat_map (eliminated_listed R c) E) ≡ true) (w v : Work) (counted : count_pivot w ≡ Done tt v) where
    step : IsStep (E ++ R ∷ []) (length E) c
    step =
        record {
          below = first;
          within = omega (arith, whole);
          columns = omega (arith, whole, (ap (λ (r : Row). length r.coefs) here ∙ is.row.coefs), long);
          enters = enters;
          compared = compared;
          fits = ap (λ (r : Row). all_fit (flat_map (eliminated_listed r c) (other_rows (E ++ R ∷ []) (length E)))) here
              ∙ ap (λ (rows : List Row). all_fit (flat_map (eliminated_listed R c) rows)) others ∙ fits;
        }

    one_goes_on : finds_point n (E ++ R ∷ []) w ≡ finds_point n (pivot (E ++ R ∷ []) (length E) c) v
    one_goes_on =
        ap (λ o. go_on o (λ t. give (is_some (numbers_of t))))
        (again_run (point_setting n) falls-constant_class (node_of (E ++ R ∷ [])) (node_of (pivot (E ++ R ∷ []) (length E) c)) w v (pivot_goes_on n (E ++ R ∷ []) (length E) c step w v counted))

    one_ends : (found : Bool) → IsEndedBy n (turned_by R c E) found → finds_point n (E ++ R ∷ []) w ≡ Done found v
    one_ends found ended =
        let mapped : length (turned_by R c E) ≡ length E = simp length-map refl in
        one_goes_on
        ∙ ap (λ (rows : List Row). finds_point n rows v) (pivot_sides E [] R (length E) c n refl is.row.coefs is.row.constant)
        ∙ finds_ended n (turned_by R c E) (unit_row n 0 c ∷ []) v (omega (arith, mapped, long)) refl found ended

-- ---- the same of the one row of a list

pub behind_refused : (n : ℕ) (E S : List Row) (c : ℕ) (w v : Work) (o : Option Refusal) → n ≤ length E → is_end n E ≡ true → IsPivotBehind n E S c
    → IfSome o (λ f. count_pivot w ≡ Refused f v) → IfSome o (λ f. finds_point n (E ++ S) w ≡ Refused f v)
behind_refused n E (R ∷ []) c w v o long end is e = one_refused n E R c long end is w v o e
behind_refused n E _ c w v o long end is e = let one = is.one in absurd (omega (arith, one))

pub behind_goes_on : (n : ℕ) (E S : List Row) (c : ℕ) (w v : Work) → n ≤ length E → is_end n E ≡ true → IsPivotBehind n E S c → IsTrue (all_fit (flat_map (eliminated_listed (row_at S 0) c) E))
    → count_pivot w ≡ Done tt v → finds_point n (E ++ S) w ≡ finds_point n (pivot (E ++ S) (length E) c) v
behind_goes_on n E (R ∷ []) c w v long end is fits e = one_goes_on n E R c long end is fits w v e
behind_goes_on n E _ c w v long end is fits e = let one = is.one in absurd (omega (arith, one))

pub behind_ends : (n : ℕ) (E S : List Row) (c : ℕ) (w v : Work) (found : Bool) → n ≤ length E → is_end n E ≡ true → IsPivotBehind n E S c → IsTrue (all_fit (flat_map (eliminated_listed (row_at S 0) c) E))
    → count_pivot w ≡ Done tt v → IsEndedBy n (turned_by (row_at S 0) c E) found → finds_point n (E ++ S) w ≡ Done found v
behind_ends n E (R ∷ []) c w v found long end is fits e ended = one_ends n E R c long end is fits w v e found ended
behind_ends n E _ c w v found long end is fits e ended = let one = is.one in absurd (omega (arith, one))
