-- A context and two answers, read one after the other.
use Rattle.tree_items.proofs.Words.{◌≡◌, ◌∙◌, ap, ℕ, ℤ, List, Option, Some, None, Result, Ok, Err, IfSome, Ending, needed_answer, trio_by, ◌>>=◌, Commented}

-- two steps, of which the second goes by what the first gives
module _ {A B C E : Type 0} (r : Result A E) (s : A → Result B E) (both : A → B → C) where
  abbrev pub steps : Result C E
  steps = r >>= λ x. s x >>= λ y. Ok (both x y)

  then : {X Y : Type 0} (q : Result X E) (f : X → Result Y E) (x : X) → q ≡ Ok x → (q >>= f) ≡ f x
  then (Ok y) f x h = let same : y ≡ x = cc in ap f same
  then (Err e) f x h = cc

  stopped : {X Y : Type 0} (q : Result X E) (f : X → Result Y E) (e : E) → q ≡ Err e → (q >>= f) ≡ Err e
  stopped (Ok y) f e h = cc
  stopped (Err d) f e h = let same : d ≡ e = cc in ap (λ (z : E). Err z) same

  pub steps-given : (x : A) (y : B) → r ≡ Ok x → s x ≡ Ok y → steps ≡ Ok (both x y)
  steps-given x y h k = then r (λ z. s z >>= λ w. Ok (both z w)) x h ∙ then (s x) (λ w. Ok (both x w)) y k

  pub steps-stopped : (x : A) (o : Option E) → r ≡ Ok x → IfSome o (λ e. s x ≡ Err e) → IfSome o (λ e. steps ≡ Err e)
  steps-stopped x None h k = tt
  steps-stopped x (Some e) h k = then r (λ z. s z >>= λ w. Ok (both z w)) x h ∙ stopped (s x) (λ w. Ok (both x w)) e k

module _ (bytes : List ℕ) (m : ℕ) (rows : List (List ℤ)) (at : ℕ) (first : Commented × ℕ) (is : needed_answer bytes m at ≡ Ok first) where
  pub trio_given : (second : Commented × ℕ) → needed_answer bytes m first.1 ≡ Ok second
      → trio_by bytes m (Some (rows, at)) ≡ Ok (Some (record { rows = rows; first = first.0; second = second.0 }, second.1))
  trio_given second h =
      steps-given (needed_answer bytes m at) (λ a. needed_answer bytes m a.1)
      (λ a b. Some (record { rows = rows; first = a.0; second = b.0 }, b.1)) first second is h

  -- the second answer is refused
  pub trio_stopped : (o : Option Ending) → IfSome o (λ e. needed_answer bytes m first.1 ≡ Err e)
      → IfSome o (λ e. trio_by bytes m (Some (rows, at)) ≡ Err e)
  trio_stopped o h =
      steps-stopped (needed_answer bytes m at) (λ a. needed_answer bytes m a.1)
      (λ a b. Some (record { rows = rows; first = a.0; second = b.0 }, b.1)) first o is h
