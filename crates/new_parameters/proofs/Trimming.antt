-- Numbers without the zeros at their end.
use Rattle.new_parameters.proofs.Words.{◌≡◌, ℕ, zero, suc, ◌-◌, ◌<◌, ◌≤◌, ℤ, pos, Bool, true, false, List, [], ◌∷◌, ◌++◌, length, take, get_or, replicate, refl, ap, sym, ◌∙◌, arith, int_eq, take_more, Decides-int_eq, trimmed, trimmed_with}

pub trimmed-zero : (xs : List ℤ) → trimmed (xs ++ pos 0 ∷ []) ≡ trimmed xs
trimmed-zero [] = refl
trimmed-zero (x ∷ xs) = ap (trimmed_with x) (trimmed-zero xs)

pub trimmed-other : (xs : List ℤ) (z : ℤ) → int_eq z (pos 0) ≡ false → trimmed (xs ++ z ∷ []) ≡ xs ++ z ∷ []
trimmed-other [] z e = rw e refl
trimmed-other (x ∷ []) z e = ap (trimmed_with x) (trimmed-other [] z e)
trimmed-other (x ∷ y ∷ xs) z e = ap (trimmed_with x) (trimmed-other (y ∷ xs) z e)

-- the front of a list that ends in 0, or in another number
pub trimmed-take_zero : (xs : List ℤ) (n : ℕ) → 0 < n → n ≤ length xs → get_or xs (n - 1) (pos 0) ≡ pos 0 → trimmed (take (n - 1) xs) ≡ trimmed (take n xs)
trimmed-take_zero xs n h le e =
    sym (trimmed-zero (take (n - 1) xs)) ∙ ap (λ (z : ℤ). trimmed (take (n - 1) xs ++ z ∷ [])) (sym e)
    ∙ ap trimmed (sym (take_more xs (n - 1) (pos 0) (omega arith))) ∙ ap (λ (k : ℕ). trimmed (take k xs)) (omega arith)

pub trimmed-take_other : (xs : List ℤ) (n : ℕ) → 0 < n → n ≤ length xs → int_eq (get_or xs (n - 1) (pos 0)) (pos 0) ≡ false → trimmed (take n xs) ≡ take n xs
trimmed-take_other xs n h le e =
    let is : take n xs ≡ take (n - 1) xs ++ get_or xs (n - 1) (pos 0) ∷ [] = ap (λ (k : ℕ). take k xs) (omega arith) ∙ take_more xs (n - 1) (pos 0) (omega arith) in
    ap trimmed is ∙ trimmed-other (take (n - 1) xs) (get_or xs (n - 1) (pos 0)) e ∙ sym is

-- ---- over a wider scope

-- n zeros behind the numbers
abbrev pub padded : ℕ → List ℤ → List ℤ
padded n xs = xs ++ replicate n (pos 0)

trimmed-zeros : (n : ℕ) → trimmed (replicate n (pos 0)) ≡ []
trimmed-zeros zero = refl
trimmed-zeros (suc n) = ap (trimmed_with (pos 0)) (trimmed-zeros n)

pub trimmed-padded : (n : ℕ) (xs : List ℤ) → trimmed (padded n xs) ≡ trimmed xs
trimmed-padded n [] = trimmed-zeros n
trimmed-padded n (x ∷ xs) = ap (trimmed_with x) (trimmed-padded n xs)

-- the zeros that a number's list has at its end
filled : (z : ℤ) (ys zs : List ℤ) (n : ℕ) (b : Bool) → int_eq z (pos 0) ≡ b → zs ≡ padded n ys → (m : ℕ) × (z ∷ zs ≡ padded m (trimmed_with z ys))
filled z [] zs n true e h =
    let is : z ≡ pos 0 = (Decides-int_eq z (pos 0)).0 e in
    (suc n, rw e (rw is (ap (λ (l : List ℤ). pos 0 ∷ l) h)))
filled z [] zs n false e h = (n, rw e (ap (λ (l : List ℤ). z ∷ l) h))
filled z (y ∷ ys) zs n b e h = (n, ap (λ (l : List ℤ). z ∷ l) h)

pub trimmed_is : (xs : List ℤ) → (n : ℕ) × (xs ≡ padded n (trimmed xs))
trimmed_is [] = (0, refl)
trimmed_is (x ∷ xs) = let rest = trimmed_is xs in filled x (trimmed xs) xs rest.0 (int_eq x (pos 0)) refl rest.1
