-- Rows whose numbers are short.
use Rattle.row_laws.proofs.Words.{◌≡◌, refl, ℕ, ◌+◌, ◌^◌, ◌<◌, ℤ, pos, arith, unsigned_abs, List, [], ◌∷◌, ◌++◌, replicate, length, take, drop, get_or, IsTrue, All, list_all, ltb-true, lt-ltb, AllPass-from_list_all, list_all-from_AllPass, All-append, All-take, All-drop, All-replicate, All-cons, All-nil, entry, width, coefficients, constant, all_fit, combine_listed, Row, widened, eliminated_listed, Fits, short_fits, is_short, IsShort, IsShortRow}
use Rattle.row_laws.proofs.Combining.{short_listed}
use Rattle.row_laws.proofs.Places.{eliminated_parts}

passes : (z : ℤ) → IsShort z → IsTrue (is_short z)
passes z h = lt-ltb (unsigned_abs z) (2 ^ 63) h

pub short_list : (xs : List ℤ) → IsTrue (list_all is_short xs) → All IsShort xs
short_list xs e k d h = ltb-true _ (2 ^ 63) (AllPass-from_list_all is_short xs e k d h)

list_short : (xs : List ℤ) → All IsShort xs → IsTrue (list_all is_short xs)
list_short xs h = list_all-from_AllPass is_short xs (λ k d lt. passes (get_or xs k d) (h k d lt))

pub short_fit : (z : ℤ) → IsShort z → Fits z
short_fit z h = lt-ltb (unsigned_abs z) (2 ^ 127) (omega (arith, h))

pub fits_short : (xs : List ℤ) → All IsShort xs → All Fits xs
fits_short xs h k d lt = short_fit (get_or xs k d) (h k d lt)

-- ---- one more place

pub widened_short : (r : Row) → 0 < length r.constant → IsShortRow r → IsShortRow (widened r)
widened_short r some h =
    let front = All-append IsShort (coefficients r.constant) (replicate 1 (pos 0)) (All-take IsShort (width r.constant) r.constant h.constant) (All-replicate IsShort 1 (pos 0) (omega arith)) in
    let end = All-cons IsShort (constant r.constant) [] (h.constant (width r.constant) (pos 0) (omega (arith, some))) (All-nil IsShort) in
    record {
      den = h.den;
      coefs = h.coefs;
      constant = All-append IsShort (coefficients r.constant ++ replicate 1 (pos 0)) (constant r.constant ∷ []) front end;
    }

-- ---- the numbers of a row with another put in

combined_fit : (a b : ℤ) (r s : List ℤ) → IsShort a → IsShort b → All IsShort r → All IsShort s → IsTrue (all_fit (combine_listed a r b s))
combined_fit a b r s ha hb hr hs = short_listed a b r s (passes a ha) (passes b hb) (list_short r hr) (list_short s hs)

but : (xs : List ℤ) (c : ℕ) → All IsShort xs → All IsShort (take c xs ++ drop (c + 1) xs)
but xs c h = All-append IsShort (take c xs) (drop (c + 1) xs) (All-take IsShort c xs h) (All-drop IsShort (c + 1) xs h)

pub short_eliminated : (p : Row) (c : ℕ) (r : Row) → IsShortRow p → IsShortRow r → c < length p.coefs → length r.coefs ≡ length p.coefs
    → IsTrue (all_fit (eliminated_listed p c r))
short_eliminated p c r hp hr lt same =
    let a_short = hp.coefs c (pos 0) lt in
    let b_short = hr.coefs c (pos 0) (omega (arith, lt, same)) in
    rw (
      eliminated_parts p c r,
      short_fits r.den (entry p.coefs c) hr.den a_short,
      short_fits (entry r.coefs c) p.den b_short hp.den,
      combined_fit (entry p.coefs c) (entry r.coefs c) (take c r.coefs ++ drop (c + 1) r.coefs) (take c p.coefs ++ drop (c + 1) p.coefs) a_short b_short (but r.coefs c hr.coefs) (but p.coefs c hp.coefs),
      combined_fit (entry p.coefs c) (entry r.coefs c) r.constant p.constant a_short b_short hr.constant hp.constant,
    ) refl
