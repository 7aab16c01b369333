-- The row of a form that is read over all columns.
use Rattle.point_run.proofs.Words.{◌≡◌, refl, ap, sym, ◌∙◌, ℕ, ◌+◌, ◌-◌, ◌<◌, ◌≤◌, ℤ, pos, arith, List, [], ◌∷◌, ◌++◌, length, map, take, get_or, drop, replicate, length-append, append_assoc, drop_more, drop_all, take_all, take-append-le, drop-append-le, length-take-le, length-replicate, map_more, map-append, gcd, gcd_of, floor_div, floor_divided, width, coefficients, constant, widen_to, Row, divided, form_row, unit_row, count_from, start, TableauRows}
use Rattle.std.proofs.Common.{ap₂, All}
use Rattle.std.proofs.lemmas.List.Elements.{All-head, All-tail}
use Rattle.pip_model.proofs.Forms.{widen_same}
use Rattle.affine_forms.proofs.Divisors.{gcd_one, floor_divided_one}

abbrev whole_row : List ℤ → List ℤ → Row
whole_row coefs constant = record { den = pos 1; coefs = coefs; constant = constant }

-- a row of denominator 1 is divided already
divided_by : (coefs constant : List ℤ) (g : ℤ) → g ≡ pos 1 → record { den = floor_div (pos 1) g; coefs = floor_divided g coefs; constant = floor_divided g constant } ≡ whole_row coefs constant
divided_by coefs constant g e = rw (e, floor_divided_one coefs, floor_divided_one constant) refl

divided_whole : (coefs constant : List ℤ) → divided (whole_row coefs constant) ≡ whole_row coefs constant
divided_whole coefs constant = divided_by coefs constant (gcd (pos 1) (gcd (gcd_of coefs) (gcd_of constant))) (gcd_one (gcd (gcd_of coefs) (gcd_of constant)))

last_part : (c : List ℤ) → 1 ≤ length c → drop (width c) c ≡ constant c ∷ []
last_part c h = drop_more c (width c) (pos 0) (omega arith) ∙ ap (λ (rest : List ℤ). constant c ∷ rest) (drop_all (width c + 1) c (omega arith))

parted : (n : ℕ) (front : List ℤ) (z : ℤ) → length front ≡ n → form_row n (front ++ z ∷ []) ≡ whole_row front (z ∷ [])
parted n front z e =
    let t : take n (front ++ z ∷ []) ≡ front = take-append-le n front (z ∷ []) (omega (arith, e)) ∙ take_all n front (omega (arith, e)) in
    let d : drop n (front ++ z ∷ []) ≡ z ∷ [] = drop-append-le n front (z ∷ []) (omega (arith, e)) ∙ ap (λ (rest : List ℤ). rest ++ z ∷ []) (drop_all n front (omega (arith, e))) in
    rw (t, d) refl

module _ (n : ℕ) (c : List ℤ) (some : 1 ≤ length c) (narrow : length c ≤ n + 1) where
  full : length (coefficients c ++ replicate (n - width c) (pos 0)) ≡ n
  full = simp (length-append, length-replicate, length-take-le) (omega (arith, some, narrow, length-take-le (width c) c (omega arith)))

  pub widened_row : (coefs last : List ℤ) → coefs ≡ coefficients c ++ replicate (n - width c) (pos 0) → last ≡ drop (width c) c
      → divided (record { den = pos 1; coefs = coefs; constant = last }) ≡ form_row n (widen_to n c)
  widened_row coefs last e f =
      rw (e, f, last_part c some)
      (divided_whole (coefficients c ++ replicate (n - width c) (pos 0)) (constant c ∷ [])
      ∙ sym (parted n (coefficients c ++ replicate (n - width c) (pos 0)) (constant c) full))

  -- the coefficients as they are made: cut to the columns, and filled up with zeros
  pub filled : (coefs front : List ℤ) (filled_from : ℕ) → front ≡ coefficients c → filled_from ≡ width c → coefs ≡ take n front ++ replicate (n - filled_from) (pos 0)
      → coefs ≡ coefficients c ++ replicate (n - width c) (pos 0)
  filled coefs front m e f g = rw (g, f, e, take_all n (coefficients c) (omega (arith, some, narrow, length-take-le (width c) c (omega arith)))) refl

-- the rows that a run starts from, with one form more
pub start_more : (n : ℕ) (forms : List (List ℤ)) (i : ℕ) (form : List ℤ) (now next : TableauRows) → i < length forms
    → now ≡ record { unknowns = n; width = 0; rows = start n 0 (map (widen_to n) (take i forms)) }
    → next ≡ record now { rows = now.rows ++ form_row now.unknowns (widen_to now.unknowns (get_or forms i form)) ∷ [] }
    → next ≡ record { unknowns = n; width = 0; rows = start n 0 (map (widen_to n) (take (i + 1) forms)) }
start_more n forms i form now next h before more =
    let units : List Row = map (unit_row n 0) (count_from 0 n) in
    let widened : List ℤ = widen_to n (get_or forms i form) in
    let first : List (List ℤ) = map (widen_to n) (take i forms) in
    let with_form : TableauRows → TableauRows = λ (t : TableauRows). record t { rows = t.rows ++ form_row t.unknowns (widen_to t.unknowns (get_or forms i form)) ∷ [] } in
    more ∙ ap with_form before ∙ ap (λ (rows : List Row). let t : TableauRows = record { unknowns = n; width = 0; rows = rows } in t)
    (append_assoc units (map (form_row n) first) (form_row n widened ∷ [])
    ∙ ap (λ (rows : List Row). units ++ rows) (sym (map-append (form_row n) first (widened ∷ [])))
    ∙ ap (λ (fs : List (List ℤ)). units ++ map (form_row n) fs) (sym (map_more (widen_to n) forms i form h)))

-- forms that are over all columns are read as they are
pub all_over : (n : ℕ) (forms : List (List ℤ)) → All (λ c. length c ≡ n + 1) forms → map (widen_to n) forms ≡ forms
all_over n [] h = refl
all_over n (c ∷ forms) h =
    ap₂ (λ (d : List ℤ) (ds : List (List ℤ)). d ∷ ds) (widen_same n c (All-head (λ (c : List ℤ). length c ≡ n + 1) c forms h))
    (all_over n forms (All-tail (λ (c : List ℤ). length c ≡ n + 1) c forms h))
