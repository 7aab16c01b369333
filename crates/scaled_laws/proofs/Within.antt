-- Rows whose numbers over one denominator are within a bound are short, and so are those that forms make of them.
use Rattle.scaled_laws.proofs.Words.{◌≡◌, refl, ◌∙◌, ap, sym, subst, ℕ, zero, suc, ◌+◌, ◌*◌, ◌^◌, ◌<◌, ℤ, pos, ◌<ℤ◌, arith, true, List, [], ◌∷◌, ◌++◌, length, map, take, drop, append-nil, All, ints, All-take, All-drop, Row, pivot_listed, entering_listed, start, unit_row, count_from, by_form, Form, made, AllWide, KeptWide, IsOver, MadeBy, IsScaled, AreScaled}
use Rattle.pip_model.specs.Listed.{all_fit}
use Rattle.form_laws.specs.Bounds.{norm, AllWithin, AllShort, KeptShort}
use Rattle.form_laws.proofs.Listed.{basis_short, made_short}
use Rattle.form_laws.proofs.Sizes.{pivot_fits, entering_fits}
use Rattle.form_laws.proofs.Invariant.{rows_any, start_made}
use Rattle.form_laws.proofs.Within.{all_wide, all_over, all_forms, all_behind}
use Rattle.scaled_laws.specs.Kept.{kept_of}

pub rows_are_short : (n w : ℕ) (L : ℤ) (m : ℕ) (rows : List Row) → AreScaled n w L m rows → AllShort n rows
rows_are_short n w L m rows h = basis_short n w m L rows (omega (arith, ints, h.positive)) h.common h.small (all_wide n w L rows h.each) (all_over n w L rows h.each) h.within

module _ (n w : ℕ) (basis : List Row) (L : ℤ) (m : ℕ) (size : length basis ≡ n) (h : AreScaled n w L m basis) where
  above : pos 0 <ℤ L
  above = omega (arith, ints, h.positive)

  kept_wide : (forms : List (List ℤ)) (more : List Row) → All (λ f. length f ≡ n + (w + 1)) forms → AllWide n w more → KeptWide n w (kept_of forms more)
  kept_wide [] [] all wide = tt
  kept_wide [] (r ∷ more) all wide = (wide.0, kept_wide [] more all wide.1)
  kept_wide (f ∷ forms) more all wide = (all 0 f (omega arith), kept_wide forms more (all_behind (λ f. length f ≡ n + (w + 1)) f forms all) wide)

  pub made_kept : (M : ℤ) (rows : List Row) (forms : List (List ℤ)) (more : List Row) → map (made n w M rows) (kept_of forms more) ≡ map (by_form n w M rows) forms ++ more
  made_kept M rows [] [] = refl
  made_kept M rows [] (r ∷ more) = ap (λ (xs : List Row). r ∷ xs) (made_kept M rows [] more)
  made_kept M rows (f ∷ forms) more = ap (λ (xs : List Row). by_form n w M rows f ∷ xs) (made_kept M rows forms more)

  kept_are_short : (forms : List (List ℤ)) (more : List Row) → All (λ f. norm f * m < 2 ^ 63) forms → AllShort n more → KeptShort n m L basis (kept_of forms more)
  kept_are_short [] [] all short = tt
  kept_are_short [] (r ∷ more) all short = (short.0, short.1, kept_are_short [] more all short.2)
  kept_are_short (f ∷ forms) more all short = (all 0 f (omega arith), kept_are_short forms more (all_behind (λ f. norm f * m < 2 ^ 63) f forms all) short)

  module _ (forms : List (List ℤ)) (more : List Row) (wide : All (λ f. length f ≡ n + (w + 1)) forms) (more_wide : AllWide n w more) where
    pub are_made : MadeBy n w basis (kept_of forms more) (basis ++ (map (by_form n w L basis) forms ++ more))
    are_made = record {
      size = size;
      wide = all_wide n w L basis h.each;
      kept_wide = kept_wide forms more wide more_wide;
      is = λ M some old. ap (λ (rows : List Row). basis ++ rows) (sym (made_kept L basis forms more)) ∙ rows_any n w L M basis (kept_of forms more) above some (all_over n w L basis h.each) old;
    }

    module _ (bound : All (λ f. norm f * m < 2 ^ 63) forms) (more_short : AllShort n more) where
      short : AllShort n (basis ++ (map (by_form n w L basis) forms ++ more))
      short = made_short n w m L basis (kept_of forms more) (basis ++ (map (by_form n w L basis) forms ++ more)) are_made above (all_over n w L basis h.each) h.common h.small h.within
          (kept_are_short forms more bound more_short)

      pub none_refused : (r c : ℕ) → r < length (basis ++ (map (by_form n w L basis) forms ++ more)) → c < n → all_fit (pivot_listed (basis ++ (map (by_form n w L basis) forms ++ more)) r c) ≡ true
      none_refused r c lt inside = pivot_fits n (basis ++ (map (by_form n w L basis) forms ++ more)) r c lt inside short

      pub comparison_refused : (r : ℕ) → r < length (basis ++ (map (by_form n w L basis) forms ++ more)) → all_fit (entering_listed (basis ++ (map (by_form n w L basis) forms ++ more)) r) ≡ true
      comparison_refused r lt = entering_fits n (basis ++ (map (by_form n w L basis) forms ++ more)) r lt short

-- ---- the first of them

pub scaled_front : (n w : ℕ) (L : ℤ) (m k : ℕ) (rows : List Row) → AreScaled n w L m rows → AreScaled n w L m (take k rows)
scaled_front n w L m k rows h = record { each = All-take (IsScaled n w L) k rows h.each; positive = h.positive; common = h.common; within = front k rows h.within; small = h.small }
  where
    front : (k : ℕ) (rows : List Row) → AllWithin m L rows → AllWithin m L (take k rows)
    front zero rows all = tt
    front (suc k) [] all = tt
    front (suc k) (r ∷ rows) all = (all.0, front k rows all.1)

pub scaled_back : (n w : ℕ) (L : ℤ) (m k : ℕ) (rows : List Row) → AreScaled n w L m rows → AreScaled n w L m (drop k rows)
scaled_back n w L m k rows h = record { each = All-drop (IsScaled n w L) k rows h.each; positive = h.positive; common = h.common; within = back k rows h.within; small = h.small }
  where
    back : (k : ℕ) (rows : List Row) → AllWithin m L rows → AllWithin m L (drop k rows)
    back zero rows all = all
    back (suc k) [] all = tt
    back (suc k) (r ∷ rows) all = back k rows all.1

-- ---- the first rows

pub start_read : (n w : ℕ) (basis : List Row) (L : ℤ) (m : ℕ) (forms : List (List ℤ)) → length basis ≡ n → basis ≡ start n w [] → AreScaled n w L m basis
    → All (λ f. length f ≡ n + w + 1) forms → basis ++ (map (by_form n w L basis) forms ++ []) ≡ start n w forms
start_read n w basis L m forms size e h wide =
    let units = map (unit_row n w) (count_from 0 n) in
    let is : basis ≡ units = e ∙ append-nil units in
    let old : IsOver L units = subst (IsOver L) is (all_over n w L basis h.each) in
    ap (λ (rows : List Row). rows ++ (map (by_form n w L rows) forms ++ [])) is
    ∙ ap (λ (rows : List Row). units ++ rows) (sym (made_kept n w basis L m size h L units forms []) ∙ ap (map (made n w L units)) (append-nil (map Form forms)))
    ∙ sym ((start_made n w forms (all_forms n w forms wide)).is L (omega (arith, ints, h.positive)) old)
