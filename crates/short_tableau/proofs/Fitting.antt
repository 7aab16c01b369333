-- Short numbers make numbers that fit.
use Rattle.short_tableau.proofs.Words.{refl, ◌∙◌, ℕ, zero, suc, ◌<◌, ℤ, Bool, true, false, List, [], ◌∷◌, length, take, arith, All, IsTrue, flat_map, if◌then◌else◌, list_all-append, All-head, All-tail, All-take, fits, same_number, entry, all_fit, Row, row_at, form_row, eliminated_listed, pivot_listed, cross_products, up_to_difference, is_better, best_listed, entering_of_listed, entering_listed, candidates, IsShort, IsShortRow, IsShortReduced}
use Rattle.affine_forms.proofs.Short.{short_fits}
use Rattle.pip_model.proofs.Tests.{both}
use Rattle.row_laws.proofs.ShortPivots.{short_listed, short_pivot}

-- ---- a pivot's

pub flat_fit : (n : ℕ) (p : Row) (c : ℕ) (rows : List Row) → IsShortReduced n 0 p → c < n → All (IsShortReduced n 0) rows → IsTrue (all_fit (flat_map (eliminated_listed p c) rows))
flat_fit n p c rows hp h all = short_listed n 0 c p rows hp.row h hp.short (λ k d lt. (all k d lt).row) (λ k d lt. (all k d lt).short)

pub pivot_fits : (n r c : ℕ) (rows : List Row) → All (IsShortReduced n 0) rows → r < length rows → c < n → IsTrue (all_fit (pivot_listed rows r c))
pivot_fits n r c rows all h k = short_pivot n 0 c r rows (λ i d lt. (all i d lt).row) (λ i d lt. (all i d lt).short) k h

-- ---- the comparisons'

up_to_fit : (xs ys : List ℤ) → IsTrue (all_fit xs) → IsTrue (all_fit ys) → IsTrue (all_fit (up_to_difference xs ys))
up_to_fit [] ys h k = refl
up_to_fit (x ∷ xs) [] h k = refl
up_to_fit (x ∷ xs) (y ∷ ys) h k =
    let a = both (fits x) (all_fit xs) h in
    let b = both (fits y) (all_fit ys) k in
    rw (a.0, b.0) (by (same_number x y) (up_to_fit xs ys a.1 b.1))
  where
    by : (t : Bool) → IsTrue (all_fit (up_to_difference xs ys)) → IsTrue (all_fit (if t then up_to_difference xs ys else []))
    by true e = e
    by false e = refl

short_entry : (xs : List ℤ) (k : ℕ) → All IsShort xs → IsShort (entry xs k)
short_entry [] k h = omega arith
short_entry (x ∷ xs) zero h = All-head IsShort x xs h
short_entry (x ∷ xs) (suc k) h = short_entry xs k (All-tail IsShort x xs h)

products_fit : (n : ℕ) (u : List Row) (p : Row) (k b : ℕ) → IsShortRow p → All (IsShortReduced n 0) u → IsTrue (all_fit (cross_products u p k b))
products_fit n [] p k b hp all = refl
products_fit n (r ∷ u) p k b hp all =
    let hr = All-head (IsShortReduced n 0) r u all in
    rw (short_fits (entry r.coefs k) (entry p.coefs b) (short_entry r.coefs k hr.short.coefs) (short_entry p.coefs b hp.coefs))
    (products_fit n u p k b hp (All-tail (IsShortReduced n 0) r u all))

best_fit : (n : ℕ) (u : List Row) (p : Row) (b : ℕ) (ks : List ℕ) → IsShortRow p → All (IsShortReduced n 0) u → IsTrue (all_fit (best_listed u p b ks))
best_fit n u p b [] hp all = refl
best_fit n u p b (k ∷ ks) hp all =
    let rest = best_listed u p (if is_better u p k b then k else b) ks in
    let one = up_to_fit (cross_products u p k b) (cross_products u p b k) (products_fit n u p k b hp all) (products_fit n u p b k hp all) in
    list_all-append fits (up_to_difference (cross_products u p k b) (cross_products u p b k)) rest
    ∙ rw (one, best_fit n u p (if is_better u p k b then k else b) ks hp all) refl

entering_of_fit : (n : ℕ) (u : List Row) (p : Row) (ks : List ℕ) → IsShortRow p → All (IsShortReduced n 0) u → IsTrue (all_fit (entering_of_listed u p ks))
entering_of_fit n u p [] hp all = refl
entering_of_fit n u p (b ∷ ks) hp all = best_fit n u p b ks hp all

pub entering_fits : (n r : ℕ) (rows : List Row) → All (IsShortReduced n 0) rows → r < length rows → IsTrue (all_fit (entering_listed rows r))
entering_fits n r rows all h =
    let hp = all r (form_row 0 []) h in
    entering_of_fit n (take (length (row_at rows r).coefs) rows) (row_at rows r) (candidates (row_at rows r)) hp.short (All-take (IsShortReduced n 0) (length (row_at rows r).coefs) rows all)
