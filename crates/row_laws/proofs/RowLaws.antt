-- Laws of rows.
use Rattle.row_laws.proofs.Words.{◌≡◌, append_assoc, sym, take, get_or, ℕ, zero, suc, ◌+◌, ◌<◌, ℤ, pos, negsuc, List, [], ◌∷◌, ◌++◌, map, replicate, length, refl, ap, ◌∙◌, arith, length-append, length-take, length-replicate, map-append, take_all, take_more, All-append, All-take, All-replicate, All-cons, All-nil, gcd, gcd_of, floor_div, floor_divided, width, coefficients, constant, Row, divided, widened, count_from, ints, gcd_assoc, floor_divided_one, Fits, IsRow, content, row_from}
use Rattle.row_laws.proofs.Contents.{content-one, gcd_of-widened}

-- ---- division

-- the divisor as it is found, number by number
abbrev pub divisor_of : ℤ → List ℤ → List ℤ → ℤ
divisor_of den coefs constant = gcd (gcd den (gcd_of coefs)) (gcd_of constant)

pub divided_row : (den : ℤ) (coefs constant : List ℤ) (g den_now : ℤ) (coefs_now constant_now : List ℤ) → g ≡ divisor_of den coefs constant
    → den_now ≡ floor_div den g → coefs_now ≡ floor_divided g coefs → constant_now ≡ floor_divided g constant
    → row_from den_now coefs_now constant_now ≡ divided (row_from den coefs constant)
divided_row den coefs constant g den_now coefs_now constant_now e p q r =
    rw (p, q, r, e, gcd_assoc den (gcd_of coefs) (gcd_of constant)) refl

div_one : (z : ℤ) → z ≡ floor_div z (pos 1)
div_one (pos n) = omega (arith, ints)
div_one (negsuc n) = omega (arith, ints)

-- a row that is divided by 1
pub divided_one : (den : ℤ) (coefs constant : List ℤ) → pos 1 ≡ divisor_of den coefs constant → row_from den coefs constant ≡ divided (row_from den coefs constant)
divided_one den coefs constant e = divided_row den coefs constant (pos 1) den coefs constant e (div_one den) (sym (floor_divided_one coefs)) (sym (floor_divided_one constant))

pub divided_whole : (den : ℤ) (coefs constant : List ℤ) → den ≡ pos 1 → row_from den coefs constant ≡ divided (row_from den coefs constant)
divided_whole den coefs constant e =
    divided_one den coefs constant (sym (gcd_assoc den (gcd_of coefs) (gcd_of constant) ∙ content-one (row_from den coefs constant) e))

-- ---- the columns' own rows

count_snoc : (i n : ℕ) → count_from i (n + 1) ≡ count_from i n ++ (i + n) ∷ []
count_snoc i zero = let e : i + 0 ≡ i = omega arith in rw e refl
count_snoc i (suc n) =
    let g : suc n + 1 ≡ suc (n + 1) = omega arith in
    let e : i + 1 + n ≡ i + suc n = omega arith in
    ap (λ k. count_from i k) g
    ∙ ap (λ (xs : List ℕ). i ∷ xs) (count_snoc (i + 1) n)
    ∙ ap (λ k. (i ∷ count_from (i + 1) n) ++ k ∷ []) e

pub count_map : {X : Type 0} (f : ℕ → X) (n : ℕ) → map f (count_from 0 (n + 1)) ≡ map f (count_from 0 n) ++ f n ∷ []
count_map f n = ap (map f) (count_snoc 0 n ∙ ap (λ k. count_from 0 n ++ k ∷ []) (omega arith)) ∙ map-append f (count_from 0 n) (n ∷ [])

-- ---- wider rows

pub widened_is_row : (n w : ℕ) (r : Row) → IsRow n w r → IsRow n (w + 1) (widened r)
widened_is_row n w r h =
    let last : width r.constant < length r.constant = omega (arith, h.constant) in
    let front = All-append Fits (coefficients r.constant) (replicate 1 (pos 0)) (All-take Fits (width r.constant) r.constant h.constant_fit) (All-replicate Fits 1 (pos 0) refl) in
    let end = All-cons Fits (constant r.constant) [] (h.constant_fit (width r.constant) (pos 0) last) (All-nil Fits) in
    record {
      positive = h.positive;
      den_fits = h.den_fits;
      coefs = h.coefs;
      constant = simp (length-append, length-take, length-replicate) (omega (arith, h.constant));
      coefs_fit = h.coefs_fit;
      constant_fit = All-append Fits (coefficients r.constant ++ replicate 1 (pos 0)) (constant r.constant ∷ []) front end;
    }

-- the constant form as its coefficients and its constant
ends : (xs : List ℤ) (w : ℕ) → length xs ≡ w + 1 → xs ≡ take w xs ++ get_or xs w (pos 0) ∷ []
ends xs w e = (sym (take_all (w + 1) xs (omega arith))) ∙ take_more xs w (pos 0) (omega arith)

pub widened_content : (n w : ℕ) (r : Row) → IsRow n w r → content (widened r) ≡ content r
widened_content n w r h =
    let width_is : width r.constant ≡ w = omega (arith, h.constant) in
    let same : gcd_of (widened r).constant ≡ gcd_of r.constant
    = rw width_is (ap gcd_of (append_assoc (take w r.constant) (pos 0 ∷ []) (get_or r.constant w (pos 0) ∷ [])) ∙ gcd_of-widened (take w r.constant) (get_or r.constant w (pos 0)) ∙ sym (ap gcd_of (ends r.constant w h.constant))) in
    ap (λ g. gcd r.den (gcd (gcd_of r.coefs) g)) same
