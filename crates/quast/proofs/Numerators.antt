-- The numbers of the values of a list's components.
use Rattle.quast.proofs.Words.{◌≡◌, ◌∙◌, ap, refl, ℕ, ◌+◌, ◌<◌, ◌≤◌, ℤ, true, false, ◌&&◌, List, [], ◌∷◌, length, take, get_or, flat_map, take_all, list_all-append, list_all_more, list_all_at, list_all, fits, all_fit, value_listed, Component, value_fits}

-- the numbers of all fit where those of each do
pub numbers-fit : (u : List ℤ) (cs : List Component) → all_fit (flat_map (λ (c : Component). value_listed c.form u) cs) ≡ list_all (value_fits u) cs
numbers-fit u [] = refl
numbers-fit u (c ∷ cs) = list_all-append fits (value_listed c.form u) (flat_map (λ (x : Component). value_listed x.form u) cs) ∙ ap (λ b. all_fit (value_listed c.form u) && b) (numbers-fit u cs)

pub fit-step : (u : List ℤ) (cs : List Component) (i : ℕ) (c : Component) → i < length cs → c ≡ get_or cs i c → list_all (value_fits u) (take i cs) ≡ true → all_fit (value_listed c.form u) ≡ true → list_all (value_fits u) (take (i + 1) cs) ≡ true
fit-step u cs i c h is before here = list_all_more (value_fits u) cs i c h ∙ rw (before, ← is) here

pub fit-end : (u : List ℤ) (cs : List Component) (i : ℕ) → length cs ≤ i → list_all (value_fits u) (take i cs) ≡ true → all_fit (flat_map (λ (c : Component). value_listed c.form u) cs) ≡ true
fit-end u cs i h before = numbers-fit u cs ∙ rw (take_all i cs h) at before

pub fit-refused : (u : List ℤ) (cs : List Component) (i : ℕ) (c : Component) → i < length cs → c ≡ get_or cs i c → all_fit (value_listed c.form u) ≡ false → all_fit (flat_map (λ (c : Component). value_listed c.form u) cs) ≡ false
fit-refused u cs i c h is here = numbers-fit u cs ∙ list_all_at (value_fits u) cs i c h (rw (← is) here)
