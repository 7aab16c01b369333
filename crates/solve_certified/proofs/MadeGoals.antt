-- The refutations of a leaf, one after another.
use Rattle.solve_certified.proofs.Words.{◌≡◌, refl, ap, sym, ◌∙◌, ℕ, ◌+◌, ◌<◌, ◌≤◌, List, [], ◌∷◌, ◌++◌, length, map, drop, get_or, append_assoc, append-nil, length-append, arith, Option, Some, None, IfSome, length-map, map-append, drop_more, drop_all, get_or-map, Problem, Component, Step, Refutation, LeafProofs, LeafCase, Premises, joined, leaf_forms, leaf_premises, row_premises, sign_premises, least_premises, fronts_from, Work, Outcome, Done, Refused, Refusal, Counted, go_on, ◌>>=◌, give, PathQuotient, made_refutation, made_refutations, made_leaf, unshared, nothing, grouped, same_after, unknowns_at, made_at, made_proofs}
use Rattle.std.proofs.lemmas.Bool.Decides.{nat_tests}
use Rattle.solve_certified.proofs.MadeBelow.{given}

module _ (P : Problem) (L : LeafCase) (ks : List PathQuotient) (f : ℕ → ℕ) where
  -- refutations, of which the first has place r; each is over as many unknowns as f has for its place
  abbrev pub made_from : ℕ → List Premises → Counted (List Refutation)
  made_from r [] = give []
  made_from r (s ∷ ss) = do
    x ← made_refutation P L ks (f r) s
    xs ← made_from (r + 1) ss
    give (x ∷ xs)

  made_from-append : (r : ℕ) (ss ts : List Premises) (w : Work) → made_from r (ss ++ ts) w ≡ go_on (made_from r ss w) (λ (xs : List Refutation). made_from (r + length ss) ts >>= λ ys. give (xs ++ ys))
  made_from-append r [] ts w = sym (given (made_from r ts w)) ∙ ap (λ (n : ℕ). go_on (made_from n ts w) (λ (ys : List Refutation). give ys)) (let e : r ≡ r + 0 = omega arith in e)
  made_from-append r (s ∷ ss) ts w =
      let rest = λ (n : ℕ) (xs : List Refutation). made_from n ts >>= λ ys. give (xs ++ ys) in
      let put = λ (x : Refutation) (xs : List Refutation). let ys : List Refutation = x ∷ xs in give ys in
      let k = r + 1 + length ss in
      let place : r + 1 + length ss ≡ r + length (s ∷ ss) = omega arith in
      same_after (made_refutation P L ks (f r) s w) (λ x. made_from (r + 1) (ss ++ ts) >>= put x) (λ x. made_from (r + 1) ss >>= put x >>= rest k) (λ x v.
      ap (λ (o : Outcome (List Refutation)). go_on o (put x)) (made_from-append (r + 1) ss ts v)
      ∙ grouped (made_from (r + 1) ss v) (rest k) (put x)
      ∙ same_after (made_from (r + 1) ss v) (λ xs. rest k xs >>= put x) (λ xs. put x xs >>= rest k) (λ xs u. grouped (made_from k ts u) (λ ys. give (xs ++ ys)) (put x))
      ∙ sym (grouped (made_from (r + 1) ss v) (put x) (rest k)))
      ∙ sym (grouped (made_refutation P L ks (f r) s w) (λ x. made_from (r + 1) ss >>= put x) (rest k))
      ∙ ap (λ (n : ℕ). go_on (made_from r (s ∷ ss) w) (rest n)) place

  -- all of them over as many unknowns
  made_from-same : (n r : ℕ) (ss : List Premises) (w : Work) → ((i : ℕ) → r ≤ i → i < r + length ss → f i ≡ n) → made_refutations P L ks n ss w ≡ made_from r ss w
  made_from-same n r [] w h = refl
  made_from-same n r (s ∷ ss) w h =
      ap (λ (m : ℕ). go_on (made_refutation P L ks m s w) (λ (x : Refutation). made_refutations P L ks n ss >>= λ xs. give (x ∷ xs))) (sym (h r (omega arith) (omega arith)))
      ∙ same_after (made_refutation P L ks (f r) s w) (λ x. made_refutations P L ks n ss >>= λ xs. give (x ∷ xs)) (λ x. made_from (r + 1) ss >>= λ xs. give (x ∷ xs))
      (λ x v. ap (λ (o : Outcome (List Refutation)). go_on o (λ (xs : List Refutation). give (x ∷ xs))) (made_from-same n (r + 1) ss v (λ i low high. h i (omega arith) (omega arith))))

  -- the next one
  module _ (S : List Premises) (made : List Refutation) (r : ℕ) (d : Premises) (w : Work) (h : r < length S) where
    abbrev behind : List Refutation → List Refutation → Counted (List Refutation)
    behind xs ys = give (xs ++ ys)

    next_parts : go_on (made_from r (drop r S) w) (behind made) ≡ go_on (go_on (made_refutation P L ks (f r) (get_or S r d) w) (λ (x : Refutation). made_from (r + 1) (drop (r + 1) S) >>= λ xs. give (x ∷ xs))) (behind made)
    next_parts = ap (λ (ss : List Premises). go_on (made_from r ss w) (behind made)) (drop_more S r d h)

    pub goals_next : (x : Refutation) (v : Work) → made_refutation P L ks (f r) (get_or S r d) w ≡ Done x v
        → go_on (made_from r (drop r S) w) (behind made) ≡ go_on (made_from (r + 1) (drop (r + 1) S) v) (behind (made ++ x ∷ []))
    goals_next x v e =
        next_parts
        ∙ ap (λ (o : Outcome Refutation). go_on (go_on o (λ (x : Refutation). made_from (r + 1) (drop (r + 1) S) >>= λ xs. give (x ∷ xs))) (behind made)) e
        ∙ grouped (made_from (r + 1) (drop (r + 1) S) v) (λ xs. give (x ∷ xs)) (behind made)
        ∙ same_after (made_from (r + 1) (drop (r + 1) S) v) (λ xs. behind made (x ∷ xs)) (behind (made ++ x ∷ [])) (λ xs u. ap (λ ys. give ys u) (sym (append_assoc made (x ∷ []) xs)))

    pub goals_stop : (e : Refusal) (v : Work) → made_refutation P L ks (f r) (get_or S r d) w ≡ Refused e v → go_on (made_from r (drop r S) w) (behind made) ≡ Refused e v
    goals_stop e v h =
        next_parts ∙ ap (λ (o : Outcome Refutation). go_on (go_on o (λ (x : Refutation). made_from (r + 1) (drop (r + 1) S) >>= λ xs. give (x ∷ xs))) (behind made)) h

-- ---- those of a leaf

module _ (P : Problem) (L : LeafCase) (ks : List PathQuotient) where
  pub leaf_goals : (o : Option (List Component)) (w : Work) → made_leaf P L ks o w ≡ made_from P L ks (unknowns_at P o) 0 (map (joined (leaf_forms P L)) (leaf_premises P L o)) w
  leaf_goals None w = made_from-same P L ks (unknowns_at P None) P.unknowns 0 (map (joined (leaf_forms P L)) (leaf_premises P L None)) w (λ i low high. refl)
  leaf_goals (Some cs) w =
      let g = joined (leaf_forms P L) in
      let rows = map g (map (row_premises P L cs) P.rows) in
      let signs = map g (map (sign_premises P L) cs) in
      let least = map g (map (least_premises P L) (fronts_from [] cs)) in
      let f = unknowns_at P (Some cs) in
      let many : length rows ≡ length P.rows = length-map (map (row_premises P L cs) P.rows) g ∙ length-map P.rows (row_premises P L cs) in
      let few : length signs ≡ length cs = length-map (map (sign_premises P L) cs) g ∙ length-map cs (sign_premises P L) in
      let split : map g (leaf_premises P L (Some cs)) ≡ rows ++ signs ++ least = map-append g (map (row_premises P L cs) P.rows ++ map (sign_premises P L) cs) (map (least_premises P L) (fronts_from [] cs)) ∙ ap (λ (us : List Premises). us ++ least) (map-append g (map (row_premises P L cs) P.rows) (map (sign_premises P L) cs)) in
      three rows signs least w
      (λ i low high. none_at i (omega (arith, many)))
      (λ i low high. none_at i (omega (arith, many, few, high)))
      (λ i low high. all_at i (omega (arith, many, few, low, length-append rows signs)))
      ∙ ap (λ (ss : List Premises). made_from P L ks f 0 ss w) (sym split)
    where
      none_at : (i : ℕ) → i < length P.rows + length cs → unknowns_at P (Some cs) i ≡ 0
      none_at i h = grind (arith, nat_tests)

      all_at : (i : ℕ) → length P.rows + length cs ≤ i → unknowns_at P (Some cs) i ≡ P.unknowns
      all_at i h = grind (arith, nat_tests)

      three : (rows signs least : List Premises) (w : Work)
          → ((i : ℕ) → 0 ≤ i → i < 0 + length rows → unknowns_at P (Some cs) i ≡ 0)
          → ((i : ℕ) → 0 + length rows ≤ i → i < 0 + length rows + length signs → unknowns_at P (Some cs) i ≡ 0)
          → ((i : ℕ) → 0 + length (rows ++ signs) ≤ i → i < 0 + length (rows ++ signs) + length least → unknowns_at P (Some cs) i ≡ P.unknowns)
          → go_on (made_refutations P L ks 0 rows w) (λ (a : List Refutation). made_refutations P L ks 0 signs >>= λ b. made_refutations P L ks P.unknowns least >>= λ c. give (a ++ b ++ c))
          ≡ made_from P L ks (unknowns_at P (Some cs)) 0 (rows ++ signs ++ least) w
      three rows signs least w h k l =
          let f = unknowns_at P (Some cs) in
          let each = λ (a b c : List Refutation). let d : List Refutation = a ++ b ++ c in give d in
          let last = λ (ab : List Refutation). made_from P L ks f (0 + length (rows ++ signs)) least >>= λ c. give (ab ++ c) in
          let two = λ (a : List Refutation). made_from P L ks f (0 + length rows) signs >>= λ b. give (a ++ b) in
          let signs_from = made_refutations P L ks 0 signs in
          let least_from = made_refutations P L ks P.unknowns least in
          ap (λ (o : Outcome (List Refutation)). go_on o (λ (a : List Refutation). signs_from >>= λ b. least_from >>= each a b)) (made_from-same P L ks f 0 0 rows w h)
          ∙ same_after (made_from P L ks f 0 rows w) (λ a. signs_from >>= λ b. least_from >>= each a b) (λ a. two a >>= last) (λ a v.
          ap (λ (o : Outcome (List Refutation)). go_on o (λ (b : List Refutation). least_from >>= each a b)) (made_from-same P L ks f 0 (0 + length rows) signs v k)
          ∙ same_after (made_from P L ks f (0 + length rows) signs v) (λ b. least_from >>= each a b) (λ b. last (a ++ b))
          (λ b u. ap (λ (o : Outcome (List Refutation)). go_on o (each a b)) (made_from-same P L ks f P.unknowns (0 + length (rows ++ signs)) least u l))
          ∙ sym (grouped (made_from P L ks f (0 + length rows) signs v) (λ b. give (a ++ b)) last))
          ∙ sym (grouped (made_from P L ks f 0 rows w) two last)
          ∙ ap (λ (o : Outcome (List Refutation)). go_on o last) (sym (made_from-append P L ks f 0 rows signs w))
          ∙ sym (made_from-append P L ks f 0 (rows ++ signs) least w)

-- ---- the next refutation of a leaf, and its end

module _ (P : Problem) (L : LeafCase) (ks : List PathQuotient) where
  abbrev pub all_premises : List Premises
  all_premises = map (joined (leaf_forms P L)) (leaf_premises P L L.list)

  abbrev pub from_here : ℕ → List Refutation → Counted (List Refutation)
  from_here r made = made_from P L ks (unknowns_at P L.list) r (drop r all_premises) >>= λ rs. give (made ++ rs)

  pub leaf_start : (made : List Refutation) (w : Work) → made ≡ [] → made_leaf P L ks L.list w ≡ from_here 0 made w
  leaf_start made w e = leaf_goals P L ks L.list w ∙ sym (given (made_from P L ks (unknowns_at P L.list) 0 all_premises w)) ∙ ap (λ (xs : List Refutation). from_here 0 xs w) (sym e)

  module _ (made : List Refutation) (r : ℕ) (w : Work) (h : r < length (leaf_premises P L L.list)) where
    long : r < length all_premises
    long = let e = length-map (leaf_premises P L L.list) (joined (leaf_forms P L)) in omega arith

    at_place : get_or all_premises r nothing ≡ joined (leaf_forms P L) (get_or (leaf_premises P L L.list) r nothing)
    at_place = get_or-map (joined (leaf_forms P L)) (leaf_premises P L L.list) r nothing nothing h

    here_is : made_refutation P L ks (unknowns_at P L.list r) (get_or all_premises r nothing) w ≡ made_at P L ks r w
    here_is = ap (λ (s : Premises). made_refutation P L ks (unknowns_at P L.list r) s w) at_place

    pub leaf_next : (x : Refutation) (v : Work) → made_at P L ks r w ≡ Done x v → from_here r made w ≡ from_here (r + 1) (made ++ x ∷ []) v
    leaf_next x v e = goals_next P L ks (unknowns_at P L.list) all_premises made r nothing w long x v (here_is ∙ e)

    pub leaf_stop : (o : Option Refusal) (v u : Work) → made_leaf P L ks L.list u ≡ from_here r made w → IfSome o (λ e. made_at P L ks r w ≡ Refused e v) → IfSome o (λ e. made_proofs P L ks u ≡ Refused e v)
    leaf_stop None v u g k = tt
    leaf_stop (Some e) v u g k =
        ap (λ (x : Outcome (List Refutation)). go_on x (λ (rs : List Refutation). give (unshared rs)))
        (g ∙ goals_stop P L ks (unknowns_at P L.list) all_premises made r nothing w long e v (here_is ∙ k))

  pub leaf_end : (p : LeafProofs) (r : ℕ) (w u : Work) → length (leaf_premises P L L.list) ≤ r → p.shared ≡ [] → made_leaf P L ks L.list u ≡ from_here r p.refutations w → made_proofs P L ks u ≡ Done p w
  leaf_end p r w u h none g =
      let e = length-map (leaf_premises P L L.list) (joined (leaf_forms P L)) in
      let gone : drop r all_premises ≡ [] = drop_all r all_premises (omega (arith, e, h)) in
      ap (λ (x : Outcome (List Refutation)). go_on x (λ (rs : List Refutation). give (unshared rs)))
      (g ∙ ap (λ (ss : List Premises). go_on (made_from P L ks (unknowns_at P L.list) r ss w) (λ (rs : List Refutation). give (p.refutations ++ rs))) gone
      ∙ ap (λ (rs : List Refutation). give rs w) (append-nil p.refutations))
      ∙ ap (λ (ss : List Step). let q : LeafProofs = record { shared = ss; refutations = p.refutations } in give q w) (sym none)
