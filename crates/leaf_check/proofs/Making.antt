-- Forms that are made for a leaf, and lists of them.
use Rattle.leaf_check.proofs.Words.{◌≡◌, refl, ap, ap₂, sym, ◌∙◌, ℕ, zero, suc, ◌+◌, ◌-◌, ◌<◌, ◌≤◌, ℤ, pos, List, [], ◌∷◌, ◌++◌, length, take, drop, set, replicate, append_assoc, arith, length-append, length-replicate, set_split, take-replicate, drop-replicate, take_at, get_or_at, length-drop, width, coefficients, constant, unit_form, widen_to, places_from, row_form, length-coefficients}
use Rattle.std.proofs.lemmas.List.Elements.{All-append, All-push, All-take, All-drop, All-replicate, All-same, All-get_or}
use Rattle.std.specs.Prelude.{All}
use Rattle.affine_forms.specs.Checks.{Fits}
use Rattle.affine_forms.specs.Forms.{IsForm}

pub unit_made : (w i : ℕ) (z : ℤ) → i < w → set (replicate (w + 1) (pos 0)) i z ≡ unit_form w i z
unit_made w i z h =
    let rest : w + 1 - suc i ≡ w - i = omega arith in
    set_split (replicate (w + 1) (pos 0)) i z (rw length-replicate (omega arith))
    ∙ ap₂ (λ (xs ys : List ℤ). xs ++ z ∷ ys) (take-replicate i (w + 1) (pos 0) (omega arith)) (drop-replicate (suc i) (w + 1) (pos 0) ∙ ap (λ (n : ℕ). replicate n (pos 0)) rest)

pub length-unit : (w i : ℕ) (z : ℤ) → i < w → length (unit_form w i z) ≡ w + 1
length-unit w i z h = simp (length-append, length-replicate) (omega arith)

pub places_more : (w first n : ℕ) → places_from w first (n + 1) ≡ places_from w first n ++ unit_form w (first + n) (pos 1) ∷ []
places_more w first zero =
    let e : first + 0 ≡ first = omega arith in
    rw e refl
places_more w first (suc n) =
    let e : first + 1 + n ≡ first + suc n = omega arith in
    let m : suc n + 1 ≡ suc (n + 1) = omega arith in
    ap (places_from w first) m
    ∙ ap (λ (rest : List (List ℤ)). unit_form w first (pos 1) ∷ rest) (places_more w (first + 1) n ∙ ap (λ (k : ℕ). places_from w (first + 1) n ++ unit_form w k (pos 1) ∷ []) e)

pub places_step : (old now : List (List ℤ)) (w first n : ℕ) (form : List ℤ) → now ≡ (old ++ places_from w first n) ++ form ∷ [] → form ≡ unit_form w (first + n) (pos 1) → now ≡ old ++ places_from w first (n + 1)
places_step old now w first n form e same = rw (e, same) (append_assoc old (places_from w first n) (unit_form w (first + n) (pos 1) ∷ []) ∙ ap (λ (zs : List (List ℤ)). old ++ zs) (sym (places_more w first n)))

-- the entries of a form that is read over more places
pub widened_fits : (w : ℕ) (form made : List ℤ) → made ≡ widen_to w form → IsForm form → All Fits made
widened_fits w form made is h =
    let zeros : All Fits (replicate (w - width form) (pos 0)) = All-replicate Fits _ _ refl in
    let front = All-append Fits _ _ (All-take Fits (width form) form h.fits) zeros in
    rw is (All-push Fits _ _ front (All-get_or Fits form (width form) (pos 0) (omega (arith, h.some)) h.fits))

-- the parts of a row that is turned: the other places, and zeros up to the scope; the unknowns; the constant
module _ (n w : ℕ) (row : List ℤ) (some : n < length row) (within : length row ≤ n + w + 1) where
  abbrev rest : List ℤ
  rest = drop n row

  abbrev places : List ℤ
  places = coefficients rest ++ replicate (w - width rest) (pos 0)

  long : length rest ≡ width rest + 1
  long = let e : length rest ≡ length row - n = length-drop n row in omega arith

  front : length (coefficients rest) ≡ width rest
  front = length-coefficients rest

  length-places : length places ≡ w
  length-places = let e : length rest ≡ length row - n = length-drop n row in simp (length-append, length-replicate, front) (omega arith)

  turned : row_form n w row ≡ (places ++ take n row) ++ constant rest ∷ []
  turned =
      let wide : length (widen_to w rest) ≡ w + 1 = length-append places (constant rest ∷ []) ∙ ap (λ (k : ℕ). k + 1) length-places in
      ap₂ (λ (xs : List ℤ) (z : ℤ). (xs ++ take n row) ++ z ∷ [])
      (take_at places (constant rest ∷ []) w length-places)
      (get_or_at places (constant rest) [] (pos 0) (width (widen_to w rest)) (omega (arith, length-places, wide)))

  pub row_made : (made : List ℤ) → made ≡ ((coefficients rest ++ replicate (w - length (coefficients rest)) (pos 0)) ++ take n row) ++ constant rest ∷ [] → made ≡ row_form n w row
  row_made made e = e ∙ rw front refl ∙ sym turned

  pub turned_form : (made : List ℤ) → made ≡ ((coefficients rest ++ replicate (w - length (coefficients rest)) (pos 0)) ++ take n row) ++ constant rest ∷ [] → All Fits row → IsForm made
  turned_form made e h =
      let own : All Fits rest = All-drop Fits n row h in
      let zeros : All Fits (replicate (w - length (coefficients rest)) (pos 0)) = All-replicate Fits _ _ refl in
      let parts = All-append Fits _ _ (All-append Fits _ _ (All-take Fits (width rest) rest own) zeros) (All-take Fits n row h) in
      let fits : All Fits made = All-same Fits _ _ e (All-push Fits _ _ parts (All-get_or Fits rest (width rest) (pos 0) (omega (arith, long)) own)) in
      record { some = rw e (simp length-append (omega arith)); fits = fits }
