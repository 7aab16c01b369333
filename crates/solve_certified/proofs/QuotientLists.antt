-- The quotients' steps, and the places that they read.
use Rattle.solve_certified.proofs.Words.{◌≡◌, refl, ap, ap₂, sym, ◌∙◌, ℕ, zero, suc, ◌+◌, ◌<◌, ℤ, pos, List, [], ◌∷◌, ◌++◌, length, take, get_or, append_assoc, length-append, arith, take_at, length-map, indices, Refutation, PathQuotient, quotient_step, quotient_steps, steps_from, ReadsPlaces, length-count}
use Rattle.pip_model.specs.Rows.{count_from}

-- the quotient at a place reads the places before it
pub reads_at : (n : ℕ) (ks : List PathQuotient) (j : ℕ) (d : PathQuotient) → ReadsPlaces n ks → j < length ks → length (get_or ks j d).quotient.form ≡ n + j + 1
reads_at n [] j d h l = absurd (omega arith)
reads_at n (k ∷ ks) zero d h l = omega (arith, h.0)
reads_at n (k ∷ ks) (suc j) d h l = reads_at (n + 1) ks j d h.1 (omega arith) ∙ omega arith

pub reads_more : (n : ℕ) (ks : List PathQuotient) (k : PathQuotient) → ReadsPlaces n ks → length k.quotient.form ≡ n + length ks + 1 → ReadsPlaces n (ks ++ k ∷ [])
reads_more n [] k h l = (omega (arith, l), tt)
reads_more n (j ∷ ks) k h l = (h.0, reads_more (n + 1) ks k h.1 (omega (arith, l)))

pub length-indices : (i n : ℕ) → length (indices i n) ≡ n
length-indices i n = length-map (count_from i n) pos ∙ length-count i n

-- all steps, over the places of the definition
pub steps_same : (front count : ℕ) (before after : List ℤ) (ks : List PathQuotient)
    → steps_from front (length before) (before ++ indices count (length ks) ++ after) ks ≡ quotient_steps front count before ks
steps_same front count before after [] = refl
steps_same front count before after (k ∷ ks) =
    let rest = indices (count + 1) (length ks) in
    let now = before ++ pos count ∷ [] in
    let split : before ++ indices count (length (k ∷ ks)) ++ after ≡ before ++ (indices count (length (k ∷ ks)) ++ after) = append_assoc before (indices count (length (k ∷ ks))) after in
    let moved : before ++ indices count (length (k ∷ ks)) ++ after ≡ now ++ rest ++ after = ap (λ (xs : List ℤ). xs ++ after) (sym (append_assoc before (pos count ∷ []) rest)) in
    ap₂ (λ (x : List ℤ) (ys : Refutation). quotient_step front x k ∷ ys)
    (ap (take (length before)) split ∙ take_at before (indices count (length (k ∷ ks)) ++ after) (length before) refl)
    (ap₂ (λ (n : ℕ) (ps : List ℤ). steps_from front n ps ks) (sym (length-append before (pos count ∷ []))) moved ∙ steps_same front (count + 1) now after ks)
