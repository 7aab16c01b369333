-- A fold, one item at a time.
use Rattle.pip_words.proofs.Words.{◌≡◌, refl, ℕ, ◌+◌, ◌<◌, List, length, get_or, drop, fold, add-one, drop-cons}

pub fold-step : {A B : Type 0} (f : B → A → B) (b : B) (xs : List A) (i : ℕ) (d : A) → i < length xs
    → fold f (f b (get_or xs i d)) (drop (i + 1) xs) ≡ fold f b (drop i xs)
fold-step f b xs i d h = rw (add-one, drop-cons xs i d) refl
