-- Places of a form that come and go.
use Rattle.affine_forms.proofs.Words.{◌≡◌, refl, ap, sym, ◌∙◌, ℕ, zero, suc, ◌+◌, ◌-◌, ◌<◌, ℤ, pos, arith, List, [], ◌∷◌, ◌++◌, length, take, get_or, set, replicate, append_assoc, append-nil, length-append, swap, set_at, get_or_at, length-take, length-replicate, take_all, All-append, All-take, All-replicate, All-nil, All-cons, coefficients, constant, widen, remove, Fits, IsForm, form-parts}
use Rattle.std.specs.Prelude.{remove as removed}
use Rattle.std.proofs.lemmas.List.Edits.{swap_is}

pub remove_same : (c : List ℤ) (i : ℕ) → removed c i ≡ remove i c
remove_same [] zero = refl
remove_same [] (suc i) = refl
remove_same (x ∷ xs) zero = refl
remove_same (x ∷ xs) (suc i) = ap (λ (rest : List ℤ). x ∷ rest) (remove_same xs i)

-- ---- zero coefficients

zeros_turn : (n : ℕ) → pos 0 ∷ replicate n (pos 0) ≡ replicate n (pos 0) ++ pos 0 ∷ []
zeros_turn zero = refl
zeros_turn (suc n) = ap (λ (xs : List ℤ). pos 0 ∷ xs) (zeros_turn n)

-- the number behind these goes behind the zeros, where the last of them stands
moved : (front : List ℤ) (k : ℤ) (n w : ℕ) → length front ≡ w
    → set (set (front ++ k ∷ replicate n (pos 0)) w (get_or (front ++ k ∷ replicate n (pos 0)) (w + n) (pos 0))) (w + n) (get_or (front ++ k ∷ replicate n (pos 0)) w (pos 0))
    ≡ front ++ replicate n (pos 0) ++ k ∷ []
moved front k zero w e =
    let m : w + 0 ≡ w = omega arith in
    rw (m, get_or_at front k [] (pos 0) w e, set_at front k [] k w e, set_at front k [] k w e) (ap (λ (xs : List ℤ). xs ++ k ∷ []) (sym (append-nil front)))
moved front k (suc n) w e =
    let before : length (front ++ k ∷ replicate n (pos 0)) ≡ w + suc n = simp (length-append, length-replicate) (omega arith) in
    let parts : front ++ k ∷ replicate (suc n) (pos 0) ≡ (front ++ k ∷ replicate n (pos 0)) ++ pos 0 ∷ [] =
    ap (λ (xs : List ℤ). front ++ k ∷ xs) (zeros_turn n) ∙ sym (append_assoc front (k ∷ replicate n (pos 0)) (pos 0 ∷ [])) in
    let read : get_or (front ++ k ∷ replicate (suc n) (pos 0)) (w + suc n) (pos 0) ≡ pos 0 =
    ap (λ (xs : List ℤ). get_or xs (w + suc n) (pos 0)) parts ∙ get_or_at (front ++ k ∷ replicate n (pos 0)) (pos 0) [] (pos 0) (w + suc n) before in
    let cleared : set (front ++ k ∷ replicate (suc n) (pos 0)) w (pos 0) ≡ (front ++ replicate (suc n) (pos 0)) ++ pos 0 ∷ [] =
    set_at front k (replicate (suc n) (pos 0)) (pos 0) w e ∙ ap (λ (xs : List ℤ). front ++ xs) (zeros_turn (suc n)) ∙ sym (append_assoc front (replicate (suc n) (pos 0)) (pos 0 ∷ [])) in
    ap (λ (z : ℤ). set (set (front ++ k ∷ replicate (suc n) (pos 0)) w z) (w + suc n) (get_or (front ++ k ∷ replicate (suc n) (pos 0)) w (pos 0))) read
    ∙ ap (λ (z : ℤ). set (set (front ++ k ∷ replicate (suc n) (pos 0)) w (pos 0)) (w + suc n) z) (get_or_at front k (replicate (suc n) (pos 0)) (pos 0) w e)
    ∙ ap (λ (xs : List ℤ). set xs (w + suc n) k) cleared
    ∙ set_at (front ++ replicate (suc n) (pos 0)) (pos 0) [] k (w + suc n) (simp (length-append, length-replicate) (omega arith))

-- a form that grew by zeros at its end, with the constant put last
pub widen_made : (c grown made : List ℤ) (m w n : ℕ) → 0 < length c → m ≡ length c + n → w ≡ length c - 1
    → grown ≡ take m c ++ replicate (m - length c) (pos 0) → made ≡ swap grown w (w + n) → made ≡ widen n c
widen_made c grown made m w n some m_is w_is is made_is =
    let more : m - length c ≡ n = omega arith in
    let same : grown ≡ c ++ replicate n (pos 0) = rw more at is ∙ ap (λ (ys : List ℤ). ys ++ replicate n (pos 0)) (take_all m c (omega arith)) in
    let whole : c ++ replicate n (pos 0) ≡ coefficients c ++ constant c ∷ replicate n (pos 0) =
    ap (λ (ys : List ℤ). ys ++ replicate n (pos 0)) (form-parts (length c - 1) c (omega arith)).0 ∙ append_assoc (coefficients c) (constant c ∷ []) (replicate n (pos 0)) in
    let size : length grown ≡ length c + n = rw same (simp (length-append, length-replicate) refl) in
    made_is
    ∙ sym (swap_is grown w (w + n) (pos 0) (omega arith) (omega arith))
    ∙ ap (λ (ys : List ℤ). set (set ys w (get_or ys (w + n) (pos 0))) (w + n) (get_or ys w (pos 0))) (same ∙ whole)
    ∙ moved (coefficients c) (constant c) n w (simp length-take (omega arith))

pub widen_form : (n : ℕ) (c : List ℤ) → IsForm c → IsForm (widen n c)
widen_form n c form =
    let front = All-append Fits (coefficients c) (replicate n (pos 0)) (All-take Fits (length c - 1) c form.fits) (All-replicate Fits n (pos 0) refl) in
    record {
      some = omega (arith, length-append (coefficients c ++ replicate n (pos 0)) (constant c ∷ []), form.some);
      fits = All-append Fits (coefficients c ++ replicate n (pos 0)) (constant c ∷ []) front (All-cons Fits (constant c) [] (form.fits (length c - 1) (pos 0) (omega (arith, form.some))) (All-nil Fits));
    }
