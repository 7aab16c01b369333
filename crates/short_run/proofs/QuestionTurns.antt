-- A turn of a question's run: it goes on, or the run ends.
use Rattle.short_run.proofs.Words.{◌≡◌, false, ◌∙◌, refl, ap, sym, ℕ, ◌≤◌, true, Option, Some, None, IfSome, IsTrue, List, [], ◌∷◌, length, append-nil, all_fit, Row, row_at, first_fraction, entering, entering_listed, pivot, pivot_listed, Work, Done, Refused, Refusal, Again, turn, turn_by, last_turn, go_on, give, count_pivot, point_setting, negative_from, node_of, counted_cut, finds_point, entering_of, candidates, take, listed, ◌>>◌, signs_of, turn_is, cut_again, cut_refused}
use Rattle.short_run.proofs.Ending.{finds_here, finds_none}
use Rattle.short_run.proofs.FurtherRows.{IsStep, turn-alone}

module _ (n : ℕ) (rows : List Row) (r c : ℕ) (is : IsStep rows r c) where
  pub pivot_goes_on : (w v : Work) → count_pivot w ≡ Done tt v → turn (point_setting n) (node_of rows) w ≡ Done (Again (node_of (pivot rows r c))) v
  pivot_goes_on w v e = turn-alone n rows r c w is ∙ ap (λ o. go_on o (λ counted. give (Again (node_of (pivot rows r c))))) e

-- ---- at a row below 0

module _ (n : ℕ) (rows : List Row) (r : ℕ) (below : negative_from 0 rows ≡ Some r) where
  none_enters : (u : List Row) (p : Row) (ks : List ℕ) → entering_of u p ks ≡ None → ks ≡ []
  none_enters u p [] e = refl
  none_enters u p (b ∷ ks) e = absurd cc

  pub finds_no_column : (w : Work) → entering rows r ≡ None → finds_point n rows w ≡ Done false w
  finds_no_column w e =
      let p = row_at rows r in
      finds_none n rows r below (none_enters (take (length p.coefs) rows) p (candidates p) e) w

  pub pivot_refused : (c : ℕ) (w v : Work) (o : Option Refusal) → IsTrue (all_fit (entering_listed rows r)) → entering rows r ≡ Some c → IfSome o (λ f. count_pivot w ≡ Refused f v)
      → IfSome o (λ f. turn (point_setting n) (node_of rows) w ≡ Refused f v)
  pivot_refused c w v None compared enters e = e
  pivot_refused c w v (Some f) compared enters e =
      turn_is n rows w
      ∙ ap (λ o. turn_by (point_setting n) (node_of rows) (signs_of o) w) below
      ∙ (rw (compared, enters) refl)
      ∙ ap (λ o. go_on o (λ done. listed (pivot_listed rows r c) >> give (Again (node_of (pivot rows r c))))) e

-- where no row is below 0
module _ (n : ℕ) (rows : List Row) (above : negative_from 0 rows ≡ None) where
  turn_above : (w : Work) → turn (point_setting n) (node_of rows) w ≡ last_turn (point_setting n) (node_of rows) (first_fraction n rows) w
  turn_above w = turn_is n rows w ∙ ap (λ o. turn_by (point_setting n) (node_of rows) (signs_of o) w) above

  pub finds_whole : (w : Work) → n ≤ length rows → first_fraction n rows ≡ None → finds_point n rows w ≡ Done true w
  finds_whole w long whole = ap (λ (l : List Row). finds_point n l w) (sym (append-nil rows)) ∙ finds_here n rows [] w long above refl whole

  pub cut_goes_on : (i : ℕ) (w v : Work) (now : List Row) → first_fraction n rows ≡ Some i → length (row_at rows i).constant ≡ 1 → counted_cut rows i w ≡ Done now v
      → turn (point_setting n) (node_of rows) w ≡ Done (Again (node_of now)) v
  cut_goes_on i w v now e one made = turn_above w ∙ cut_again n rows i w e one ∙ ap (λ o. go_on o (λ now. give (Again (node_of now)))) made

  refused_here : (w u : Work) (o : Option Refusal) → IfSome o (λ f. last_turn (point_setting n) (node_of rows) (first_fraction n rows) w ≡ Refused f u)
      → IfSome o (λ f. turn (point_setting n) (node_of rows) w ≡ Refused f u)
  refused_here w u None e = e
  refused_here w u (Some f) e = turn_above w ∙ e

  pub cut_refuses : (i : ℕ) (w u : Work) (o : Option Refusal) → first_fraction n rows ≡ Some i → length (row_at rows i).constant ≡ 1 → IfSome o (λ f. counted_cut rows i w ≡ Refused f u)
      → IfSome o (λ f. turn (point_setting n) (node_of rows) w ≡ Refused f u)
  cut_refuses i w u o e one h = refused_here w u o (cut_refused n rows i w u e one o h)
