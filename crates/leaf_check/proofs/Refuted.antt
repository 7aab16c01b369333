-- A refutation and the numbers of its starting forms.
use Rattle.leaf_check.proofs.Words.{◌≡◌, refl, ap, ap₂, ◌∙◌, ℕ, ◌+◌, ◌<◌, ℤ, List, [], ◌∷◌, length, drop, map, get_or, arith, Ok, Err, length-map, drop_more, get_or-map, Option, Some, None, IfSome, ◌>>◌, Refutation, CheckFault, Checks, Premises, joined, check_refutation, check_refutations, nothing}

abbrev pub bare : List (List ℤ) → Premises
bare known = record { known = known; listed = [] }

then_rest : (first rest : Checks (Unit {0})) → first ≡ Ok tt → (first >> rest) ≡ rest
then_rest (Ok x) rest e = refl
then_rest (Err f) rest e = cc

then_stop : (first rest : Checks (Unit {0})) (f : CheckFault) → first ≡ Err f → (first >> rest) ≡ Err f
then_stop (Ok x) rest f e = cc
then_stop (Err g) rest f e = e

-- ---- the refutations, one after another

module _ (l i w : ℕ) (known : Premises) (own : List Premises) (xs : List Refutation) (d : Refutation) (h : i < length own) (k : i < length xs) where
  abbrev all : List Premises
  all = map (joined known) own

  first : drop i all ≡ joined known (get_or own i nothing) ∷ drop (i + 1) all
  first =
      let long : length all ≡ length own = length-map own (joined known) in
      drop_more all i nothing (omega arith) ∙ ap (λ (s : Premises). s ∷ drop (i + 1) all) (get_or-map (joined known) own i nothing nothing h)

  pub refutations_next : check_refutation l (i + 1) w (joined known (get_or own i nothing)) (get_or xs i d) ≡ Ok tt
      → check_refutations l (i + 1) w (drop i all) (drop i xs) ≡ check_refutations l (i + 1 + 1) w (drop (i + 1) all) (drop (i + 1) xs)
  refutations_next e =
      ap₂ (check_refutations l (i + 1) w) first (drop_more xs i d k)
      ∙ then_rest (check_refutation l (i + 1) w (joined known (get_or own i nothing)) (get_or xs i d)) (check_refutations l (i + 1 + 1) w (drop (i + 1) all) (drop (i + 1) xs)) e

  pub refutations_stop : (o : Option CheckFault) → check_refutations l 1 w all xs ≡ check_refutations l (i + 1) w (drop i all) (drop i xs)
      → IfSome o (λ f. check_refutation l (i + 1) w (joined known (get_or own i nothing)) (get_or xs i d) ≡ Err f) → IfSome o (λ f. check_refutations l 1 w all xs ≡ Err f)
  refutations_stop None e s = tt
  refutations_stop (Some f) e s =
      e
      ∙ ap₂ (check_refutations l (i + 1) w) first (drop_more xs i d k)
      ∙ then_stop (check_refutation l (i + 1) w (joined known (get_or own i nothing)) (get_or xs i d)) (check_refutations l (i + 1 + 1) w (drop (i + 1) all) (drop (i + 1) xs)) f s
