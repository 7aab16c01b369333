-- The constants of rows' components, one after the other.
use Rattle.point_run.proofs.Words.{◌≡◌, ◌∙◌, ap, sym, ℕ, ◌+◌, ◌<◌, ℤ, List, [], ◌∷◌, ◌++◌, length, map, take, map_more, map-append, constant, Component, Row, row_at, form_row, row_component}

pub more_values : (rows : List Row) (i : ℕ) (made new : List ℤ) (z : ℤ) → i < length rows → made ≡ map (λ (c : Component). constant c.form) (map row_component (take i rows))
    → z ≡ constant (row_component (row_at rows i)).form → new ≡ made ++ z ∷ [] → new ≡ map (λ (c : Component). constant c.form) (map row_component (take (i + 1) rows))
more_values rows i made new z lt before value step =
    let all : List Component → List ℤ = map (λ (c : Component). constant c.form) in
    step ∙ ap (λ (xs : List ℤ). xs ++ z ∷ []) before ∙ ap (λ (x : ℤ). all (map row_component (take i rows)) ++ x ∷ []) value
    ∙ sym (ap all (map_more row_component rows i (form_row 0 []) lt) ∙ map-append (λ (c : Component). constant c.form) (map row_component (take i rows)) (row_component (row_at rows i) ∷ []))
