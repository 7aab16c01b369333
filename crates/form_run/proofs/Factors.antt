-- The factors of a scale, and the columns of a basis.
use Rattle.form_run.proofs.Words.{◌≡◌, ◌∙◌, sym, ℕ, ◌+◌, ◌<◌, ℤ, List, [], ◌∷◌, ◌++◌, length, take, map_more, floor_div, Row, row_at, form_row, factors_of}

pub factors_more : (L : ℤ) (rows : List Row) (j : ℕ) (old new : List ℤ) (q : ℤ) → j < length rows → old ≡ factors_of L (take j rows) → q ≡ floor_div L (row_at rows j).den → new ≡ old ++ q ∷ []
    → new ≡ factors_of L (take (j + 1) rows)
factors_more L rows j old new q lt e f g = g ∙ rw (e, f) (sym (map_more (λ (r : Row). floor_div L r.den) rows j (form_row 0 []) lt))
