-- A list that was changed in place as a whole, as it stands in its vector.
use Rattle.affine_forms.proofs.Words.{◌≡◌, sym, ◌∙◌, ℕ, ◌<◌, ℤ, List, ◌++◌, length, take, drop, subst, arith, take_at, All, Fits, IsForm}

module _ (n : ℕ) (xs ys new : List ℤ) (same : ys ≡ xs) (l : length ys ≡ n) (e : length new ≡ length ys) where
  pub kept_whole : take n (new ++ drop (length new) xs) ≡ new
  kept_whole = take_at new (drop (length new) xs) n (e ∙ l)

  pub whole_form : 0 < length xs → All Fits new → IsForm (take n (new ++ drop (length new) xs))
  whole_form some fits =
      let long : length ys ≡ length xs = subst (λ (zs : List ℤ). length ys ≡ length zs) same (omega arith) in
      subst IsForm (sym kept_whole) (record { some = omega (arith, some, long, e); fits = fits })
