-- The numbers of a leaf's path: where those fit that come first, a check goes on as if there were none of them.
use Rattle.certificate_check.proofs.Words.{◌≡◌, refl, ap, ap₂, sym, ◌∙◌, ℕ, ◌+◌, ℤ, Bool, true, false, List, [], ◌∷◌, ◌++◌, length, map, drop, append_assoc, Ok, Err, ◌==◌, Option, Some, None, ◌>>=◌, ◌>>◌, all_fit, opposite_listed, Problem, Refutation, LeafProofs, Spot, spot, Checks, holds, fit, after_steps, Premises, LeafCase, joined, check_refutation, check_refutations, check_proofs, is_whole_list, leaf_forms, leaf_premises, check_leaf, check_leaves, leaf_cases, ends_absurd, Quotient, lower_bound, upper_bound, opposite, constant, Tree, Bottom, Leaf, If, NewParm, Component, leaves, check_leaves-if, fit_behind}

-- the premises with more numbers before theirs
abbrev pub with_numbers : List ℤ → Premises → Premises
with_numbers zs start = record { known = start.known; listed = zs ++ start.listed }

fit_same : (at : Spot) (zs ys : List ℤ) → all_fit zs ≡ true → fit at (zs ++ ys) ≡ fit at ys
fit_same at zs ys h = rw (fit_behind zs ys h) refl

refutation_same : (l r w : ℕ) (zs : List ℤ) (start : Premises) (steps : Refutation) → all_fit zs ≡ true → check_refutation l r w (with_numbers zs start) steps ≡ check_refutation l r w start steps
refutation_same l r w zs start steps h =
    ap (λ (first : Checks (Unit {0})). first >> (after_steps l r 0 w start.known steps >>= (λ (known : List (List ℤ)). holds (spot l r (length steps)) (ends_absurd known)))) (fit_same (spot l r 0) zs start.listed h)

-- numbers that fit, of the leaf's forms
refutations_same : (l r w : ℕ) (zs : List ℤ) (known : List (List ℤ)) (ys : List ℤ) (own : List Premises) (xs : List Refutation) → all_fit zs ≡ true
    → check_refutations l r w (map (joined (record { known = known; listed = zs ++ ys })) own) xs ≡ check_refutations l r w (map (joined (record { known = known; listed = ys })) own) xs
refutations_same l r w zs known ys [] xs h = refl
refutations_same l r w zs known ys (o ∷ own) [] h = refl
refutations_same l r w zs known ys (o ∷ own) (x ∷ xs) h =
    let start = joined (record { known = known; listed = ys }) o in
    let more : check_refutation l r w (joined (record { known = known; listed = zs ++ ys }) o) x ≡ check_refutation l r w start x =
    ap (λ (ws : List ℤ). check_refutation l r w (record { known = known ++ o.known; listed = ws }) x) (append_assoc zs ys o.listed) ∙ refutation_same l r w zs start x h in
    ap₂ (λ (a b : Checks (Unit {0})). a >> b) more (refutations_same l (r + 1) w zs known ys own xs h)

pub proofs_same : (shares : Bool) (l w : ℕ) (zs : List ℤ) (known : List (List ℤ)) (ys : List ℤ) (own : List Premises) (p : LeafProofs) → all_fit zs ≡ true
    → check_proofs shares l w (record { known = known; listed = zs ++ ys }) own p ≡ check_proofs shares l w (record { known = known; listed = ys }) own p
proofs_same true l w zs known ys own p h =
    let count = holds (spot l 0 0) (length p.refutations == length own) in
    let rest = after_steps l 0 0 w known p.shared >>= (λ (now : List (List ℤ)). check_refutations l 1 w (map (joined (record { known = now; listed = [] })) own) p.refutations) in
    ap (λ (first : Checks (Unit {0})). count >> (first >> rest)) (fit_same (spot l 0 0) zs ys h)
proofs_same false l w zs known ys own p h = go (after_steps l 0 0 w known p.shared)
  where
    go : (steps : Checks (List (List ℤ)))
        → (holds (spot l 0 0) (length p.refutations == length own) >> (steps >>= (λ (now : List (List ℤ)). check_refutations l 1 w (map (joined (record { known = now; listed = zs ++ ys })) own) p.refutations)))
        ≡ (holds (spot l 0 0) (length p.refutations == length own) >> (steps >>= (λ (now : List (List ℤ)). check_refutations l 1 w (map (joined (record { known = now; listed = ys })) own) p.refutations)))
    go (Ok now) = ap (λ (rest : Checks (Unit {0})). holds (spot l 0 0) (length p.refutations == length own) >> rest) (refutations_same l 1 w zs now ys own p.refutations h)
    go (Err f) = refl

pub leaf_same : (P : Problem) (shares : Bool) (l : ℕ) (L M : LeafCase) (zs : List ℤ) (p : LeafProofs) → all_fit zs ≡ true → L ≡ record M { listed = zs ++ M.listed } → check_leaf P shares l L p ≡ check_leaf P shares l M p
leaf_same P shares l L M zs p h e =
    ap (λ (K : LeafCase). check_leaf P shares l K p) e
    ∙ ap (λ (rest : Checks (Unit {0})). holds (spot l 0 0) (is_whole_list P.unknowns M.list) >> rest)
    (proofs_same shares l (M.scope + P.unknowns) zs (leaf_forms P M).known M.listed (leaf_premises P M M.list) p h)

-- ---- the leaves of a tree

one_leaf : (P : Problem) (shares : Bool) (l w : ℕ) (path : List (List ℤ)) (zs ys : List ℤ) (list : Option (List Component)) (ps : List LeafProofs) → all_fit zs ≡ true
    → check_leaves P shares l (record { scope = w; path = path; listed = zs ++ ys; list = list } ∷ []) ps ≡ check_leaves P shares l (record { scope = w; path = path; listed = ys; list = list } ∷ []) ps
one_leaf P shares l w path zs ys list [] h = refl
one_leaf P shares l w path zs ys list (p ∷ ps) h =
    ap (λ (first : Checks (Unit {0})). first >> Ok tt) (leaf_same P shares l _ (record { scope = w; path = path; listed = ys; list = list }) zs p h refl)

pub leaves_same : (P : Problem) (shares : Bool) (l w : ℕ) (path : List (List ℤ)) (zs ys : List ℤ) (t : Tree) (ps : List LeafProofs) → all_fit zs ≡ true
    → check_leaves P shares l (leaf_cases w path (zs ++ ys) t) ps ≡ check_leaves P shares l (leaf_cases w path ys t) ps
leaves_same P shares l w path zs ys Bottom ps h = one_leaf P shares l w path zs ys None ps h
leaves_same P shares l w path zs ys (Leaf cs) ps h = one_leaf P shares l w path zs ys (Some cs) ps h
leaves_same P shares l w path zs ys (If v a b) ps h =
    check_leaves-if P shares l w path (zs ++ ys) v a b ps
    ∙ ap₂ (λ (x y : Checks (Unit {0})). x >> y)
    (leaves_same P shares l w (path ++ v ∷ []) zs ys a ps h)
    (ap (λ (ns : List ℤ). check_leaves P shares (l + leaves a) (leaf_cases w (path ++ opposite v ∷ []) ns b) (drop (leaves a) ps)) (append_assoc zs ys (opposite_listed v))
    ∙ leaves_same P shares (l + leaves a) w (path ++ opposite v ∷ []) zs (ys ++ opposite_listed v) b (drop (leaves a) ps) h)
    ∙ sym (check_leaves-if P shares l w path ys v a b ps)
leaves_same P shares l w path zs ys (NewParm v d a) ps h =
    let k : Quotient = record { form = v; den = d } in
    let high = upper_bound (w + 1) w k in
    let longer = path ++ lower_bound (w + 1) w k ∷ high ∷ [] in
    ap (λ (ns : List ℤ). check_leaves P shares l (leaf_cases (w + 1) longer ns a) ps) (append_assoc zs ys (constant high ∷ []))
    ∙ leaves_same P shares l (w + 1) longer zs (ys ++ constant high ∷ []) a ps h
