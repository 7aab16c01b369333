-- Forms in lanes as forms over some columns: their length, and the sum of their sizes.
use Rattle.lane_run.proofs.Words.{◌≡◌, ℕ, suc, ◌+◌, ◌^◌, ◌<◌, ◌≤◌, ℤ, pos, unsigned_abs, arith, List, [], ◌∷◌, ◌++◌, get_or, take, norm, numbers_long, IsWithin, AreWithin, forms_of, IsModest, AreModest}
use Rattle.std.proofs.lemmas.List.Elements.{All-map}
use Rattle.lane_rows.specs.Laned.{numbers_of}

norm_behind : (xs : List ℤ) (z : ℤ) → norm (xs ++ z ∷ []) ≡ norm xs + unsigned_abs z
norm_behind [] z = omega arith
norm_behind (x ∷ xs) z = let e = norm_behind xs z in omega (arith, e)

norm_front : (n : ℕ) (xs : List ℤ) → norm (take n xs) ≤ norm xs
norm_front (suc n) (x ∷ xs) = let e = norm_front n xs in omega (arith, e)
norm_front _ _ = omega arith

pub norm_numbers : (n : ℕ) (x : List ℤ) → norm (numbers_of n x) ≤ norm x
norm_numbers n [] = let none : List ℤ = [] in let e = norm_front n none in let f = norm_behind (take n none) (pos 0) in omega (arith, e, f)
norm_numbers n (z ∷ xs) = let e = norm_front n xs in let f = norm_behind (take n xs) z in omega (arith, e, f)

modest : (n b : ℕ) (x : List ℤ) → n ≤ 7 → b < 2 ^ 31 → IsWithin b x → IsModest n (numbers_of n x)
modest n b x few small h = record {
  long = numbers_long n x (omega (arith, few, h.lanes.long));
  norm = let e = norm_numbers n x in omega (arith, e, h.norm, small);
}

pub are_modest : (n b : ℕ) (forms : List (List ℤ)) → n ≤ 7 → b < 2 ^ 31 → AreWithin b forms → AreModest n (forms_of n forms)
are_modest n b forms few small h = All-map (IsModest n) (numbers_of n) forms (λ k d lt. modest n b (get_or forms k d) few small (h k d lt))
