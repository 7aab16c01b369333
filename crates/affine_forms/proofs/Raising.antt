-- Steps of a list whose entries are raised to multiples.
use Rattle.affine_forms.proofs.Words.{◌≡◌, refl, ap, ◌∙◌, ℕ, ◌+◌, ◌<◌, ◌≤◌, ℤ, pos, Bool, true, ◌&&◌, List, [], ◌∷◌, ◌++◌, length, map, take, drop, get_or, subst, All, IsFalse, drop_more, take_more, take_all, All-push, fits, all_fit, Fits, raised}
use Rattle.affine_forms.proofs.Mapped.{mapped, mapped_read}
use Rattle.std.proofs.lemmas.List.Folds.{list_all-append}

module _ (d : ℤ) (xs : List ℤ) (i : ℕ) where
  parts : i < length xs → all_fit (map (raised d) (drop i xs)) ≡ (fits (raised d (get_or xs i (pos 0))) && all_fit (map (raised d) (drop (i + 1) xs)))
  parts h = rw (drop_more xs i (pos 0) h) refl

  pub raised_step : i < length xs → Fits (raised d (get_or xs i (pos 0))) → all_fit (map (raised d) (drop i xs)) ≡ all_fit (map (raised d) (drop (i + 1) xs))
  raised_step h e = parts h ∙ ap (λ (t : Bool). t && all_fit (map (raised d) (drop (i + 1) xs))) e

  pub raised_more : i < length xs → All (λ x. Fits (raised d x)) (take i xs) → Fits (raised d (get_or xs i (pos 0))) → All (λ x. Fits (raised d x)) (take (i + 1) xs)
  raised_more h all e = rw (take_more xs i (pos 0) h) (All-push (λ x. Fits (raised d x)) (take i xs) (get_or xs i (pos 0)) all e)

  pub raised_end : length xs ≤ i → All (λ x. Fits (raised d x)) (take i xs) → All (λ x. Fits (raised d x)) xs
  raised_end h all = subst (λ (ys : List ℤ). All (λ x. Fits (raised d x)) ys) (take_all i xs h) all

-- the entry that is read next is raised to a number that fits
pub raised_read : (d : ℤ) (old now : List ℤ) (i : ℕ) → now ≡ mapped (raised d) i old → i < length old → All (λ x. Fits (raised d x)) old → Fits (raised d (get_or now i (pos 0)))
raised_read d old now i e h all = rw (e, mapped_read (raised d) old i (pos 0) h) (all i (pos 0) h)

pub rounded_refused : (xs : List ℤ) (z : ℤ) → IsFalse (all_fit xs) → IsFalse (all_fit (xs ++ z ∷ []))
rounded_refused xs z e = list_all-append fits xs (z ∷ []) ∙ ap (λ (t : Bool). t && (fits z && true)) e
