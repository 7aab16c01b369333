-- A list without one of its places.
use Rattle.row_laws.proofs.Words.{◌≡◌, refl, ap, sym, ◌∙◌, ℕ, zero, suc, ◌+◌, ◌<◌, ℤ, ◌*ℤ◌, pos, ◌&&◌, List, [], ◌∷◌, ◌++◌, length, take, drop, arith, length-take, drop_more, list_all-append, length-combine, fits, slice_set, combine, entry, remove, Row, eliminated_listed, all_fit, combine_listed}

listed_append : (a b : ℤ) (r s more rest : List ℤ) → length r ≡ length s → combine_listed a (r ++ more) b (s ++ rest) ≡ combine_listed a r b s ++ combine_listed a more b rest
listed_append a b [] [] more rest e = refl
listed_append a b (x ∷ r) (y ∷ s) more rest e = rw (listed_append a b r s more rest (omega arith)) refl
listed_append a b _ _ more rest e = absurd (omega arith)

-- the numbers at the places but c
pub listed_but : (a b : ℤ) (r s : List ℤ) (c : ℕ) → length r ≡ length s
    → all_fit (combine_listed a (take c r ++ drop (c + 1) r) b (take c s ++ drop (c + 1) s))
    ≡ (all_fit (combine_listed a (take c r) b (take c s)) && all_fit (combine_listed a (drop (c + 1) r) b (drop (c + 1) s)))
listed_but a b r s c e =
    ap all_fit (listed_append a b (take c r) (take c s) (drop (c + 1) r) (drop (c + 1) s) (simp length-take (omega arith)))
    ∙ list_all-append fits (combine_listed a (take c r) b (take c s)) (combine_listed a (drop (c + 1) r) b (drop (c + 1) s))

pub drop_two : (r : List ℤ) (c : ℕ) → c < length r → drop 1 (drop c r) ≡ drop (c + 1) r
drop_two r c h = rw (drop_more r c (pos 0) h) refl

-- ---- a row with another put in

pub take_combine : (a b : ℤ) (r s : List ℤ) (c : ℕ) → combine a (take c r) b (take c s) ≡ take c (combine a r b s)
take_combine a b r s zero = refl
take_combine a b [] s (suc c) = refl
take_combine a b (x ∷ r) [] (suc c) = refl
take_combine a b (x ∷ r) (y ∷ s) (suc c) = rw (take_combine a b r s c) refl

pub drop_combine : (a b : ℤ) (r s : List ℤ) (c : ℕ) → combine a (drop c r) b (drop c s) ≡ drop c (combine a r b s)
drop_combine a b r s zero = refl
drop_combine a b [] s (suc c) = refl
drop_combine a b (x ∷ r) [] (suc c) = combine_nil a b (drop c r)
  where
    combine_nil : (a b : ℤ) (r : List ℤ) → combine a r b [] ≡ []
    combine_nil a b [] = refl
    combine_nil a b (x ∷ r) = refl
drop_combine a b (x ∷ r) (y ∷ s) (suc c) = drop_combine a b r s c

-- a list with another element at place c
pub set_parts : {X : Type 0} (xs : List X) (c : ℕ) (e : X) → c < length xs → slice_set xs c e ≡ take c xs ++ e ∷ drop (c + 1) xs
set_parts [] c e h = absurd (omega arith)
set_parts (x ∷ xs) zero e h = refl
set_parts (x ∷ xs) (suc c) e h =
    let k : c < length xs = omega arith in
    let m : suc c + 1 ≡ suc (c + 1) = omega arith in
    rw (m, set_parts xs c e k) refl

pub set_combine : (a b e : ℤ) (r s : List ℤ) (c : ℕ) → length r ≡ length s → c < length s
    → combine a (take c r) b (take c s) ++ e ∷ combine a (drop (c + 1) r) b (drop (c + 1) s) ≡ slice_set (combine a r b s) c e
set_combine a b e r s c same h =
    let k : c < length (combine a r b s) = rw (length-combine a r b s same, same) h in
    rw (take_combine a b r s c, drop_combine a b r s (c + 1)) (sym (set_parts (combine a r b s) c e k))

pub remove_parts : (c : ℕ) (xs : List ℤ) → remove c xs ≡ take c xs ++ drop (c + 1) xs
remove_parts zero [] = refl
remove_parts (suc c) [] = let m : suc c + 1 ≡ suc (c + 1) = omega arith in rw m refl
remove_parts zero (x ∷ xs) = refl
remove_parts (suc c) (x ∷ xs) =
    let m : suc c + 1 ≡ suc (c + 1) = omega arith in
    rw (m, remove_parts c xs) refl

abbrev top : Row → ℕ → ℤ
top r c = entry r.coefs c

pub eliminated_parts : (p : Row) (c : ℕ) (r : Row) → all_fit (eliminated_listed p c r)
    ≡ (fits (r.den *ℤ top p c) && (fits (top r c *ℤ p.den) && (all_fit (combine_listed (top p c) (take c r.coefs ++ drop (c + 1) r.coefs) (top r c) (take c p.coefs ++ drop (c + 1) p.coefs)) && all_fit (combine_listed (top p c) r.constant (top r c) p.constant))))
eliminated_parts p c r =
    let parts = list_all-append fits (combine_listed (top p c) (remove c r.coefs) (top r c) (remove c p.coefs)) (combine_listed (top p c) r.constant (top r c) p.constant) in
    rw (parts, remove_parts c r.coefs, remove_parts c p.coefs) refl
