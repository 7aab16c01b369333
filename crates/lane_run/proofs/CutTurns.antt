-- A turn of a question's run where no row is below 0.
use Rattle.lane_run.proofs.Words.{◌≡◌, ◌∙◌, ap, sym, ℕ, ◌<◌, ◌≤◌, ℤ, arith, true, Option, Some, None, List, [], ◌∷◌, ◌++◌, length, take, drop, map, append_assoc, length-append, IfSome, take-append-le, drop-append-le, take_all, map-append, Row, row_at, first_fraction, fraction_from, constant_cut, Work, Outcome, Done, Refused, Refusal, go_on, give, turn, count_cut, point_setting, rows_by, Kept, Form, Whole, made, AreScaled, kept_of, ScaledTable, with_row, finds_point, IsTurnOf, negative_from, node_of, counted_cut, finds_whole, cut_goes_on, cut_refuses, run_rows, row_at-front}
use Rattle.run_laws.proofs.Fractions.{fraction_some}
use Rattle.form_laws.proofs.Pivots.{rows_added}
use Rattle.lane_run.proofs.Parts.{column_at, columns_long, one_constant}

-- a row more behind the others
kept_more : (F : List (List ℤ)) (more : List Row) (r : Row) → kept_of F more ++ Whole r ∷ [] ≡ kept_of F (more ++ r ∷ [])
kept_more F more r =
    append_assoc (map Form F) (map Whole more) (Whole r ∷ [])
    ∙ ap (λ (ks : List Kept). map Form F ++ ks) (sym (map-append Whole more (r ∷ [])))

module _ (t : ScaledTable) (m : ℕ) (scaled : AreScaled t.unknowns 0 t.scale m t.rows) (enough : t.unknowns ≤ length t.rows) where
  abbrev n : ℕ
  n = t.unknowns

  abbrev basis : List Row
  basis = take t.unknowns t.rows

  -- of a point's rows the cut is the last
  pub run_more : (F : List (List ℤ)) (cut : Row) → run_rows (with_row t cut) F ≡ run_rows t F ++ cut ∷ []
  run_more F cut =
      ap (λ (rows : List Row). rows_by n 0 t.scale rows (kept_of F (drop n (t.rows ++ cut ∷ [])))) (take-append-le n t.rows (cut ∷ []) enough)
      ∙ ap (λ (more : List Row). rows_by n 0 t.scale basis (kept_of F more)) (drop-append-le n t.rows (cut ∷ []) enough)
      ∙ ap (rows_by n 0 t.scale basis) (sym (kept_more F (drop n t.rows) cut))
      ∙ sym (rows_added n 0 t.scale basis (kept_of F (drop n t.rows)) cut)

  module _ (F : List (List ℤ)) where
    abbrev made_behind : List Row
    made_behind = map (made n 0 t.scale basis) (kept_of F (drop n t.rows))

    pub run_long : n ≤ length (run_rows t F)
    run_long = let e = length-append basis made_behind in let f = columns_long t m scaled enough in omega (arith, e, f)

    front_is : take n (run_rows t F) ≡ basis
    front_is = let f = columns_long t m scaled enough in take-append-le n basis made_behind (omega (arith, f)) ∙ take_all n basis (omega (arith, f))

    fraction_is : first_fraction n (run_rows t F) ≡ first_fraction n t.rows
    fraction_is = ap (fraction_from 0) front_is

    row_here : (i : ℕ) → i < n → row_at (run_rows t F) i ≡ row_at t.rows i
    row_here i lt = let f = columns_long t m scaled enough in row_at-front basis made_behind i (omega (arith, lt, f)) ∙ column_at t m scaled enough i lt

  pub fraction_inside : (i : ℕ) → first_fraction n t.rows ≡ Some i → i < n
  fraction_inside i e =
      let at = fraction_some 0 i basis e in
      omega (arith, (columns_long t m scaled enough), at.1, at.2)

  module _ (F : List (List ℤ)) (above : negative_from 0 (run_rows t F) ≡ None) where
    pub point_found : (w : Work) → first_fraction n t.rows ≡ None → finds_point n (run_rows t F) w ≡ Done true w
    point_found w none = finds_whole n (run_rows t F) above w (run_long F) (fraction_is F ∙ none)

    module _ (i : ℕ) (e : first_fraction n t.rows ≡ Some i) where
      abbrev cut : Row
      cut = constant_cut (row_at t.rows i)

      one : length (row_at (run_rows t F) i).constant ≡ 1
      one =
          let lt = fraction_inside i e in
          ap (λ (r : Row). length r.constant) (row_here F i lt) ∙ one_constant t m scaled enough i (omega (arith, lt, enough))

      counted : (w v : Work) → count_cut w ≡ Done tt v → counted_cut (run_rows t F) i w ≡ Done (run_rows (with_row t cut) F) v
      counted w v is =
          ap (λ (o : Outcome (Unit {0})). go_on o (λ done. give (run_rows t F ++ constant_cut (row_at (run_rows t F) i) ∷ []))) is
          ∙ ap (λ (r : Row). Done (run_rows t F ++ constant_cut r ∷ []) v) (row_here F i (fraction_inside i e))
          ∙ ap (λ (rows : List Row). Done rows v) (sym (run_more F cut))

      pub cut_added : (w v : Work) → count_cut w ≡ Done tt v → IsTurnOf n (run_rows t F) (run_rows (with_row t cut) F) w v None
      cut_added w v is = cut_goes_on n (run_rows t F) above i w v (run_rows (with_row t cut) F) (fraction_is F ∙ e) one (counted w v is)

      uncounted : (w v : Work) (o : Option Refusal) → IfSome o (λ f. count_cut w ≡ Refused f v) → IfSome o (λ f. counted_cut (run_rows t F) i w ≡ Refused f v)
      uncounted w v None h = h
      uncounted w v (Some f) h = ap (λ (o : Outcome (Unit {0})). go_on o (λ done. give (run_rows t F ++ constant_cut (row_at (run_rows t F) i) ∷ []))) h

      pub cut_stopped : (w v : Work) (o : Option Refusal) → IfSome o (λ f. count_cut w ≡ Refused f v) → IfSome o (λ f. turn (point_setting n) (node_of (run_rows t F)) w ≡ Refused f v)
      cut_stopped w v o h = cut_refuses n (run_rows t F) above i w v o (fraction_is F ∙ e) one (uncounted w v o h)

  pub all_stopped : (i : ℕ) → first_fraction n t.rows ≡ Some i → (w v : Work) (o : Option Refusal) → IfSome o (λ f. count_cut w ≡ Refused f v)
      → IfSome o (λ f. (F : List (List ℤ)) → negative_from 0 (run_rows t F) ≡ None → turn (point_setting n) (node_of (run_rows t F)) w ≡ Refused f v)
  all_stopped i e w v None h = h
  all_stopped i e w v (Some f) h = λ F above. cut_stopped F above i e w v (Some f) h
