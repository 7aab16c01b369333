-- The parameters of a list of texts, one more at a time.
use Rattle.pip_words.proofs.Words.{◌≡◌, ◌∙◌, ap, refl, arith, ℕ, zero, suc, ◌<◌, List, [], ◌∷◌, ◌++◌, map, take, length, Option, Some, None, Bor, cond, slice_index_or, Bool, true, false, ℤ, parameter_of, all_parameters, ◌>>=◌}

abbrev texts_in : List (Bor (List ℕ)) → List (List ℕ)
texts_in = map (λ text. text.now)

abbrev step : Option ℤ → Option (List ℤ) → Option (List ℤ)
step o more = o >>= λ z. more >>= λ zs. Some (z ∷ zs)

none_later : (o : Option ℤ) → step o None ≡ None
none_later None = refl
none_later (Some z) = refl

-- a text that is no parameter makes the list none
pub refused : (ts : List (Bor (List ℕ))) (i : ℕ) (d : Bor (List ℕ)) → i < length ts → parameter_of (slice_index_or ts i d).now ≡ None → all_parameters (texts_in ts) ≡ None
refused [] i d h e = absurd (omega arith)
refused (t ∷ ts) zero d h e = ap (λ (o : Option ℤ). step o (all_parameters (texts_in ts))) e
refused (t ∷ ts) (suc i) d h e = ap (step (parameter_of t.now)) (refused ts i d (omega arith) e) ∙ none_later (parameter_of t.now)

joined : (o : Option ℤ) (rest rest' : Option (List ℤ)) (zs : List ℤ) (z : ℤ) → step o rest ≡ Some zs
    → ((ys : List ℤ) → rest ≡ Some ys → rest' ≡ Some (ys ++ z ∷ [])) → step o rest' ≡ Some (zs ++ z ∷ [])
joined None rest rest' zs z e f = cc
joined (Some x) None rest' zs z e f = cc
joined (Some x) (Some ys) rest' zs z e f = rw (f ys refl) (let is : x ∷ ys ≡ zs = cc in ap (λ (xs : List ℤ). Some (xs ++ z ∷ [])) is)

-- one more text gives one more parameter
pub more : (ts : List (Bor (List ℕ))) (i : ℕ) (d : Bor (List ℕ)) (zs : List ℤ) (z : ℤ) → i < length ts → all_parameters (take i (texts_in ts)) ≡ Some zs
    → parameter_of (slice_index_or ts i d).now ≡ Some z → all_parameters (take (suc i) (texts_in ts)) ≡ Some (zs ++ z ∷ [])
more [] i d zs z h e f = absurd (omega arith)
more (t ∷ ts) zero d zs z h e f = ap (λ (o : Option ℤ). step o (Some [])) f ∙ (let is : [] ≡ zs = cc in ap (λ (xs : List ℤ). Some (xs ++ z ∷ [])) is)
more (t ∷ ts) (suc i) d zs z h e f = joined (parameter_of t.now) (all_parameters (take i (texts_in ts))) (all_parameters (take (suc i) (texts_in ts))) zs z e
    (λ ys g. more ts i d ys z (omega arith) g f)

pub none_either : (b : Bool) (o : Option (List ℤ)) → o ≡ None → cond b o None ≡ None
none_either true o e = e
none_either false o e = refl
