-- The rows of a basis are wide, over its multiple, and within its bound.
use Rattle.std.proofs.Common.{map, All}
use Rattle.form_laws.proofs.Words.{◌≡◌, ◌∙◌, refl, ap, sym, subst, ℕ, zero, suc, ◌+◌, ◌*◌, ◌^◌, ◌<◌, ◌≤◌, ℤ, pos, ◌*ℤ◌, ◌<ℤ◌, unsigned_abs, arith, ◌⊎◌, inl, inr, true, List, [], ◌∷◌, ◌++◌, length, append-nil, ints, unsigned_abs-mul, floor_div, entry, all_fit, Row, pivot_listed, start, unit_row, count_from, IsShortRow, coef, place, over, by_form, Form, made, IsWide, AllWide, KeptWide, IsOver, MadeBy, AllForms, norm, AllWithin, IsBounded, AllShort, KeptShort, IsScaled, IsBasis, row_at, pivot, eliminated, turned, rows_by, ◌≤ℤ◌}
use Rattle.form_laws.proofs.Columns.{part_coef, part_place, column_within}
use Rattle.form_laws.proofs.Listed.{basis_short, pivot_refuses_none}
use Rattle.form_laws.proofs.Sizes.{short_by_form}
use Rattle.form_laws.proofs.Invariant.{rows_any, start_made, pivot_made}

pub all_behind : {X : Type 0} (P : X → Type 0) (x : X) (xs : List X) → All P (x ∷ xs) → All P xs
all_behind P x xs h k d lt = h (suc k) d (omega (arith, lt))

pub all_wide : (n w : ℕ) (L : ℤ) (rows : List Row) → All (IsScaled n w L) rows → AllWide n w rows
all_wide n w L [] h = tt
all_wide n w L (r ∷ rows) h = ((h 0 r (omega arith)).wide, all_wide n w L rows (all_behind (IsScaled n w L) r rows h))

pub all_over : (n w : ℕ) (L : ℤ) (rows : List Row) → All (IsScaled n w L) rows → IsOver L rows
all_over n w L [] h = tt
all_over n w L (r ∷ rows) h = ((h 0 r (omega arith)).multiple, all_over n w L rows (all_behind (IsScaled n w L) r rows h))

entry_or_none : (xs : List ℤ) (k : ℕ) → (k < length xs) ⊎ (entry xs k ≡ pos 0)
entry_or_none [] k = inr refl
entry_or_none (x ∷ xs) zero = inl (omega arith)
entry_or_none (x ∷ xs) (suc k) = further (entry_or_none xs k)
  where
    further : (k < length xs) ⊎ (entry xs k ≡ pos 0) → (suc k < length (x ∷ xs)) ⊎ (entry (x ∷ xs) (suc k) ≡ pos 0)
    further (inl lt) = inl (omega (arith, lt))
    further (inr e) = inr e

none_within : (q z : ℤ) (m : ℕ) → z ≡ pos 0 → unsigned_abs (q *ℤ z) ≤ m
none_within q z m e = rw (e, unsigned_abs-mul q (pos 0)) (zero_within (unsigned_abs q) m)
  where
    zero_within : (a m : ℕ) → a * 0 ≤ m
    zero_within a m = grind arith

rows_within : (n w m : ℕ) (L : ℤ) (rows : List Row) → All (IsScaled n w L) rows → ((k : ℕ) → k < n → All (λ z. unsigned_abs z ≤ m) (over L (coef k) rows))
    → ((k : ℕ) → k < w + 1 → All (λ z. unsigned_abs z ≤ m) (over L (place k) rows)) → AllWithin m L rows
rows_within n w m L [] h coefs places = tt
rows_within n w m L (r ∷ rows) h coefs places = (
  record {
    coefs = λ k. by_coef k (entry_or_none r.coefs k);
    places = λ k. by_place k (entry_or_none r.constant k);
  },
  rows_within n w m L rows (all_behind (IsScaled n w L) r rows h)
      (λ k lt. all_behind (λ z. unsigned_abs z ≤ m) _ (over L (coef k) rows) (coefs k lt))
      (λ k lt. all_behind (λ z. unsigned_abs z ≤ m) _ (over L (place k) rows) (places k lt)),
)
  where
    wide : IsWide n w r
    wide = (h 0 r (omega arith)).wide

    by_coef : (k : ℕ) → (k < length r.coefs) ⊎ (entry r.coefs k ≡ pos 0) → unsigned_abs (floor_div L r.den *ℤ coef k r) ≤ m
    by_coef k (inl lt) = coefs k (omega (arith, lt, wide.coefs)) 0 (pos 0) (omega arith)
    by_coef k (inr e) = none_within (floor_div L r.den) (coef k r) m e

    by_place : (k : ℕ) → (k < length r.constant) ⊎ (entry r.constant k ≡ pos 0) → unsigned_abs (floor_div L r.den *ℤ place k r) ≤ m
    by_place k (inl lt) = places k (omega (arith, lt, wide.constant)) 0 (pos 0) (omega arith)
    by_place k (inr e) = none_within (floor_div L r.den) (place k r) m e

module _ (n w : ℕ) (basis : List Row) (L : ℤ) (m : ℕ) (numbers : List ℤ) (h : IsBasis n w basis L m numbers) where
  pub basis_within : AllWithin m L basis
  basis_within = rows_within n w m L basis h.rows
      (λ k lt. subst (All (λ z. unsigned_abs z ≤ m)) (part_coef n k L basis lt) (column_within h k (omega (arith, lt))))
      (λ k lt. subst (All (λ z. unsigned_abs z ≤ m)) (part_place n k L basis) (column_within h (n + k) (omega (arith, lt))))

  above : pos 0 <ℤ L
  above = omega (arith, ints, h.positive)

  pub bounded : (f : List ℤ) → norm f * m < 2 ^ 63 → IsBounded m L basis f
  bounded f bound = record { common = h.common; basis_short = h.small; rows = basis_within; form_short = bound }

  pub rows_are_short : AllShort n basis
  rows_are_short = basis_short n w m L basis above h.common h.small (all_wide n w L basis h.rows) (all_over n w L basis h.rows) basis_within

  pub form_is_short : (f : List ℤ) → norm f * m < 2 ^ 63 → IsShortRow (by_form n w L basis f)
  form_is_short f bound = short_by_form n w m L basis f h.size above (bounded f bound)

  kept_wide : (forms : List (List ℤ)) → All (λ f. length f ≡ n + (w + 1)) forms → KeptWide n w (map Form forms)
  kept_wide [] all = tt
  kept_wide (f ∷ forms) all = (all 0 f (omega arith), kept_wide forms (all_behind (λ f. length f ≡ n + (w + 1)) f forms all))

  pub made_forms : (M : ℤ) (rows : List Row) (forms : List (List ℤ)) → map (made n w M rows) (map Form forms) ≡ map (by_form n w M rows) forms
  made_forms M rows [] = refl
  made_forms M rows (f ∷ forms) = rw (made_forms M rows forms) refl

  kept_are_short : (forms : List (List ℤ)) → All (λ f. norm f * m < 2 ^ 63) forms → KeptShort n m L basis (map Form forms)
  kept_are_short [] all = tt
  kept_are_short (f ∷ forms) all = (all 0 f (omega arith), kept_are_short forms (all_behind (λ f. norm f * m < 2 ^ 63) f forms all))

  pub are_made : (forms : List (List ℤ)) → All (λ f. length f ≡ n + (w + 1)) forms → MadeBy n w basis (map Form forms) (basis ++ map (by_form n w L basis) forms)
  are_made forms wide = record {
    size = h.size;
    wide = all_wide n w L basis h.rows;
    kept_wide = kept_wide forms wide;
    is = λ M some old. ap (λ (rows : List Row). basis ++ rows) (sym (made_forms L basis forms)) ∙ rows_any n w L M basis (map Form forms) above some (all_over n w L basis h.rows) old;
  }

  pub none_refused : (forms : List (List ℤ)) → All (λ f. length f ≡ n + (w + 1)) forms → All (λ f. norm f * m < 2 ^ 63) forms → (r c : ℕ) → r < length (basis ++ map (by_form n w L basis) forms) → c < n
      → all_fit (pivot_listed (basis ++ map (by_form n w L basis) forms) r c) ≡ true
  none_refused forms wide bound r c lt inside =
      pivot_refuses_none n w m L basis (map Form forms) (basis ++ map (by_form n w L basis) forms) (are_made forms wide) above (all_over n w L basis h.rows) h.common h.small basis_within
      (kept_are_short forms bound) r c lt inside

  turned_forms : (p : Row) (c : ℕ) (forms : List (List ℤ)) → map (turned p c) (map Form forms) ≡ map Form forms
  turned_forms p c [] = refl
  turned_forms p c (f ∷ forms) = rw (turned_forms p c forms) refl

  -- a pivot of all rows is that of the unknowns' rows: the forms stay
  module _ (forms : List (List ℤ)) (wide : All (λ f. length f ≡ n + (w + 1)) forms) (r c : ℕ) where
    abbrev pub all_of : List Row
    all_of = basis ++ map (by_form n w L basis) forms

    abbrev pub turned_of : List Row
    turned_of = map (eliminated (row_at all_of r) c) basis

    pub forms_pivot : (M : ℤ) → r < length all_of → c < n → pos 1 ≤ℤ entry (row_at all_of r).coefs c → pos 1 ≤ℤ M → All (IsScaled n w M) turned_of
        → turned_of ++ map (by_form n w M turned_of) forms ≡ pivot all_of r c
    forms_pivot M lt inside positive some scaled =
        let after = pivot_made n w basis (map Form forms) all_of r c (are_made forms wide) lt inside (omega (arith, ints, positive)) in
        sym (after.is M (omega (arith, ints, some)) (all_over n w M turned_of scaled)
        ∙ ap (rows_by n w M turned_of) (turned_forms (row_at all_of r) c forms) ∙ ap (λ (rows : List Row). turned_of ++ rows) (made_forms M turned_of forms))

-- ---- the first rows

pub all_forms : (n w : ℕ) (forms : List (List ℤ)) → All (λ f. length f ≡ n + w + 1) forms → AllForms n w forms
all_forms n w [] h = tt
all_forms n w (f ∷ forms) h =
    (omega (arith, (h 0 [] (omega arith))), all_forms n w forms (all_behind (λ g. length g ≡ n + w + 1) f forms h))

pub start_read : (n w : ℕ) (basis : List Row) (L : ℤ) (m : ℕ) (numbers : List ℤ) (forms : List (List ℤ)) → basis ≡ start n w [] → IsBasis n w basis L m numbers
    → All (λ f. length f ≡ n + w + 1) forms → basis ++ map (by_form n w L basis) forms ≡ start n w forms
start_read n w basis L m numbers forms e h wide =
    let units = map (unit_row n w) (count_from 0 n) in
    let is : basis ≡ units = e ∙ append-nil units in
    let old : IsOver L units = subst (IsOver L) is (all_over n w L basis h.rows) in
    ap (λ (rows : List Row). rows ++ map (by_form n w L rows) forms) is
    ∙ ap (λ (rows : List Row). units ++ rows) (sym (made_forms n w basis L m numbers h L units forms))
    ∙ sym ((start_made n w forms (all_forms n w forms wide)).is L (omega (arith, ints, h.positive)) old)
