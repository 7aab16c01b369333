-- The numbers that a pivot makes of short rows fit.
use Rattle.row_laws.proofs.Words.{◌∙◌, refl, ℕ, ◌+◌, ◌<◌, ℤ, List, [], ◌∷◌, ◌++◌, length, take, drop, flat_map, get_or, arith, sym, IsTrue, All, All-head, All-tail, All-append, All-take, All-drop, all_fit, Row, row_at, form_row, eliminated_listed, pivot_listed, IsRow, IsShortRow}
use Rattle.row_laws.proofs.ShortRows.{short_eliminated}
use Rattle.row_laws.proofs.Unchanged.{all_fit-append}

pub flat_fit : {X : Type 0} (g : X → List ℤ) (xs : List X) → All (λ x. IsTrue (all_fit (g x))) xs → IsTrue (all_fit (flat_map g xs))
flat_fit g [] h = refl
flat_fit {X} g (x ∷ xs) h =
    let F : X → Type 0 = λ y. IsTrue (all_fit (g y)) in
    all_fit-append (g x) (flat_map g xs) ∙ rw ((All-head F x xs h), flat_fit g xs (All-tail F x xs h)) refl

pub short_listed : (n w c : ℕ) (p : Row) (rows : List Row) → IsRow n w p → c < n → IsShortRow p → All (IsRow n w) rows → All IsShortRow rows → IsTrue (all_fit (flat_map (eliminated_listed p c) rows))
short_listed n w c p rows hp column short formed shorts =
    flat_fit (eliminated_listed p c) rows
    (λ k d lt. short_eliminated p c (get_or rows k d) short (shorts k d lt) (omega (arith, column, hp.coefs)) ((formed k d lt).coefs ∙ sym hp.coefs))

pub short_pivot : (n w c r : ℕ) (rows : List Row) → All (IsRow n w) rows → All IsShortRow rows → c < n → r < length rows → IsTrue (all_fit (pivot_listed rows r c))
short_pivot n w c r rows h short column lt =
    short_listed n w c (row_at rows r) (take r rows ++ drop (r + 1) rows) (h r (form_row 0 []) lt) column (short r (form_row 0 []) lt)
    (All-append (IsRow n w) (take r rows) (drop (r + 1) rows) (All-take (IsRow n w) r rows h) (All-drop (IsRow n w) (r + 1) rows h))
    (All-append IsShortRow (take r rows) (drop (r + 1) rows) (All-take IsShortRow r rows short) (All-drop IsShortRow (r + 1) rows short))
