-- That each call of a source but the last takes a byte, through a whole run.
use Rattle.item_writing.proofs.Words.{◌≡◌, ℕ, ◌+◌, ◌<◌, inr, arith, List, Option, Some, None, IfSome, Consumes, Takes, AsksOn, takes-none, takes-more, asks-none}

module _ {S : Type 0} (Calls : S → S → Type 0) (taken : S → ℕ) where
  pub takes-start : (s : S) (o : Option (List ℕ)) → IfSome o (λ _. Takes Calls taken s s)
  takes-start s None = tt
  takes-start s (Some left) = takes-none Calls taken s

  pub asks-told : (s t : S) (o : Option (List ℕ)) → IfSome o (λ _. Takes Calls taken s t) → IfSome o (λ _. AsksOn Calls taken s t)
  asks-told s t None h = tt
  asks-told s t (Some left) h = asks-none Calls taken s t h

  pub asks-start : (s : S) (o : Option (List ℕ)) → IfSome o (λ _. AsksOn Calls taken s s)
  asks-start s o = asks-told s s o (takes-start s o)

  -- ---- a read

  pub takes-read : (s t u : S) (o m : Option (List ℕ)) (xs : List ℕ) (n : ℕ) → Consumes o m xs → IfSome o (λ _. Takes Calls taken s t) → IfSome m (λ _. taken u ≡ taken t + n) → 0 < n → Calls t u → IfSome o (λ _. Takes Calls taken s u)
  takes-read s t u None m xs n k h counted some called = tt
  takes-read s t u (Some left) None xs n k h counted some called = absurd k
  takes-read s t u (Some left) (Some rest) xs n k h counted some called = takes-more Calls taken s t u h (inr called) (omega (arith, counted, some))
