-- The leaves below a node: first those of its first tree, and the first of them where a number of the path does not fit.
use Rattle.solve_certified.proofs.Words.{◌≡◌, refl, ap, ap₂, sym, ◌∙◌, ℕ, ◌+◌, ◌<◌, ◌≤◌, ℤ, Bool, true, false, List, [], ◌∷◌, ◌++◌, pos, length, map, append_assoc, length-append, arith, eqb-true, ◌==◌, Option, Some, None, length-map, same_number, opposite, constant, all_fit, opposite_listed, Quotient, lower_bound, upper_bound, Problem, Tree, Bottom, Leaf, If, NewParm, Component, leaves, Refutation, LeafProofs, Certificate, Premises, LeafCase, leaf_cases, leaf_forms, leaf_premises, row_premises, sign_premises, least_premises, fronts_from, joined, is_whole_list, Work, Outcome, Done, Refused, Refusal, Overflow, Counted, go_on, ◌>>=◌, ◌>>◌, give, unless, listed, PathQuotient, path_quotients, made_refutation, made_refutations, made_leaf, unshared, made_leaves, both, grouped, same_after, TrailForms, below_quotient, made_below, are_whole}
use Rattle.std.specs.List.{list_all}
use Rattle.pip_model.proofs.Fitting.{fit_behind, fit_never}
use Rattle.check_laws.proofs.Paths.{length-leaf_cases}

-- ---- leaves one after another

pub given : {A : Type 0} (o : Outcome A) → go_on o (λ x. give x) ≡ o
given (Done x w) = refl
given (Refused e w) = refl

made_leaves-append : (P : Problem) (Ls Ms : List LeafCase) (kss jss : List (List PathQuotient)) (w : Work) → length Ls ≡ length kss
    → made_leaves P (Ls ++ Ms) (kss ++ jss) w ≡ go_on (made_leaves P Ls kss w) (λ (xs : List LeafProofs). made_leaves P Ms jss >>= λ ys. give (xs ++ ys))
made_leaves-append P [] Ms [] jss w e = sym (given (made_leaves P Ms jss w))
made_leaves-append P [] Ms (ks ∷ kss) jss w e = absurd (omega arith)
made_leaves-append P (L ∷ Ls) Ms [] jss w e = absurd (omega arith)
made_leaves-append P (L ∷ Ls) Ms (ks ∷ kss) jss w e =
    let rest = λ (xs : List LeafProofs). made_leaves P Ms jss >>= λ ys. give (xs ++ ys) in
    let put = λ (p : List Refutation) (ps : List LeafProofs). let qs : List LeafProofs = unshared p ∷ ps in give qs in
    same_after (made_leaf P L ks L.list w) (λ p. made_leaves P (Ls ++ Ms) (kss ++ jss) >>= put p) (λ p. made_leaves P Ls kss >>= put p >>= rest) (λ p v.
    ap (λ (o : Outcome (List LeafProofs)). go_on o (put p)) (made_leaves-append P Ls Ms kss jss v (omega arith))
    ∙ grouped (made_leaves P Ls kss v) rest (put p)
    ∙ same_after (made_leaves P Ls kss v) (λ xs. rest xs >>= put p) (λ xs. put p xs >>= rest) (λ xs u. grouped (made_leaves P Ms jss u) (λ ys. give (xs ++ ys)) (put p))
    ∙ sym (grouped (made_leaves P Ls kss v) (put p) rest))
    ∙ sym (grouped (made_leaf P L ks L.list w) (λ p. made_leaves P Ls kss >>= put p) rest)

pub length-path_quotients : (n : ℕ) (ks : List PathQuotient) (t : Tree) → length (path_quotients n ks t) ≡ leaves t
length-path_quotients n ks Bottom = refl
length-path_quotients n ks (Leaf cs) = refl
length-path_quotients n ks (If v a b) =
    length-append (path_quotients (n + 1) ks a) (path_quotients (n + 1) ks b)
    ∙ ap₂ (λ (i j : ℕ). i + j) (length-path_quotients (n + 1) ks a) (length-path_quotients (n + 1) ks b)
length-path_quotients n ks (NewParm v d a) = length-path_quotients (n + 2) (ks ++ record { quotient = record { form = v; den = d }; bound = n + 1 } ∷ []) a

-- a choice
leaves-if : (P : Problem) (s : ℕ) (path : List (List ℤ)) (zs : List ℤ) (n : ℕ) (ks : List PathQuotient) (v : List ℤ) (a b : Tree) (w : Work)
    → made_leaves P (leaf_cases s path zs (If v a b)) (path_quotients n ks (If v a b)) w
    ≡ go_on (made_leaves P (leaf_cases s (path ++ v ∷ []) zs a) (path_quotients (n + 1) ks a) w)
    (λ (xs : List LeafProofs). made_leaves P (leaf_cases s (path ++ opposite v ∷ []) (zs ++ opposite_listed v) b) (path_quotients (n + 1) ks b) >>= λ ys. give (xs ++ ys))
leaves-if P s path zs n ks v a b w =
    made_leaves-append P (leaf_cases s (path ++ v ∷ []) zs a) (leaf_cases s (path ++ opposite v ∷ []) (zs ++ opposite_listed v) b) (path_quotients (n + 1) ks a) (path_quotients (n + 1) ks b) w
    (length-leaf_cases s (path ++ v ∷ []) zs a ∙ sym (length-path_quotients (n + 1) ks a))

-- ---- the numbers of a path

-- behind these numbers and those the same fit
abbrev pub FitAlike : List ℤ → List ℤ → Type 0
FitAlike zs ys = (more : List ℤ) → all_fit (zs ++ more) ≡ all_fit (ys ++ more)

alike_more : (zs ys more : List ℤ) → FitAlike zs ys → FitAlike (zs ++ more) (ys ++ more)
alike_more zs ys more h = λ rest. ap all_fit (append_assoc zs more rest) ∙ h (more ++ rest) ∙ sym (ap all_fit (append_assoc ys more rest))

pub alike_none : (zs : List ℤ) → all_fit zs ≡ true → FitAlike zs []
alike_none zs h = λ more. fit_behind zs more h

then_same : {A : Type 0} (zs ys : List ℤ) (rest : Counted A) (w : Work) → all_fit zs ≡ all_fit ys → (listed zs >> rest) w ≡ (listed ys >> rest) w
then_same zs ys rest w h = ap (λ (b : Bool). go_on (unless b Overflow w) (λ done. rest)) h

then_stop : {A : Type 0} (zs : List ℤ) (rest : Counted A) (w : Work) → all_fit zs ≡ false → (listed zs >> rest) w ≡ Refused Overflow w
then_stop zs rest w h = ap (λ (b : Bool). go_on (unless b Overflow w) (λ done. rest)) h

module _ (P : Problem) (s : ℕ) (path : List (List ℤ)) (list : Option (List Component)) (ks : List PathQuotient) where
  abbrev case_by : List ℤ → LeafCase
  case_by zs = record { scope = s; path = path; listed = zs; list = list }

  abbrev signs_by : List Component → List ℤ → Counted (List Refutation)
  signs_by cs ns = made_refutations P (case_by ns) ks 0 (map (joined (leaf_forms P (case_by ns))) (map (sign_premises P (case_by ns)) cs))

  abbrev least_by : List Component → List ℤ → Counted (List Refutation)
  least_by cs ns = made_refutations P (case_by ns) ks P.unknowns (map (joined (leaf_forms P (case_by ns))) (map (least_premises P (case_by ns)) (fronts_from [] cs)))

  abbrev all_by : List Component → List ℤ → List Refutation → Counted (List Refutation)
  all_by cs ns a = signs_by cs ns >>= λ b. least_by cs ns >>= λ c. give (a ++ b ++ c)

  module _ (zs ys : List ℤ) (alike : FitAlike zs ys) where
    refutations_same : (n : ℕ) (os : List Premises) (w : Work) → made_refutations P (case_by zs) ks n (map (joined (leaf_forms P (case_by zs))) os) w ≡ made_refutations P (case_by ys) ks n (map (joined (leaf_forms P (case_by ys))) os) w
    refutations_same n [] w = refl
    refutations_same n (o ∷ os) w =
        let first = then_same (zs ++ o.listed) (ys ++ o.listed) _ w (alike o.listed) in
        ap (λ (x : Outcome Refutation). go_on x (λ (r : Refutation). made_refutations P (case_by zs) ks n (map (joined (leaf_forms P (case_by zs))) os) >>= λ rs. give (r ∷ rs))) first
        ∙ same_after (made_refutation P (case_by ys) ks n (joined (leaf_forms P (case_by ys)) o) w) _ _ (λ r v. ap (λ (x : Outcome (List Refutation)). go_on x (λ (rs : List Refutation). give (r ∷ rs))) (refutations_same n os v))

    leaf_same : (o : Option (List Component)) (w : Work) → made_leaf P (case_by zs) ks o w ≡ made_leaf P (case_by ys) ks o w
    leaf_same None w = refutations_same P.unknowns (leaf_premises P (case_by ys) None) w
    leaf_same (Some cs) w =
        ap (λ (x : Outcome (List Refutation)). go_on x (all_by cs zs)) (refutations_same 0 (map (row_premises P (case_by ys) cs) P.rows) w)
        ∙ same_after (made_refutations P (case_by ys) ks 0 (map (joined (leaf_forms P (case_by ys))) (map (row_premises P (case_by ys) cs) P.rows)) w) (all_by cs zs) (all_by cs ys) (λ a v.
        ap (λ (x : Outcome (List Refutation)). go_on x (λ (b : List Refutation). least_by cs zs >>= λ c. give (a ++ b ++ c))) (refutations_same 0 (map (sign_premises P (case_by ys)) cs) v)
        ∙ same_after (signs_by cs ys v) _ _ (λ b u. ap (λ (x : Outcome (List Refutation)). go_on x (λ (c : List Refutation). give (a ++ b ++ c))) (refutations_same P.unknowns (map (least_premises P (case_by ys)) (fronts_from [] cs)) u)))

  -- where a number of the path does not fit
  module _ (zs : List ℤ) (unfit : all_fit zs ≡ false) where
    stops : (n : ℕ) (os : List Premises) (w : Work) → 0 < length os → made_refutations P (case_by zs) ks n (map (joined (leaf_forms P (case_by zs))) os) w ≡ Refused Overflow w
    stops n [] w h = absurd (omega arith)
    stops n (o ∷ os) w h =
        ap (λ (x : Outcome Refutation). go_on x (λ (r : Refutation). made_refutations P (case_by zs) ks n (map (joined (leaf_forms P (case_by zs))) os) >>= λ rs. give (r ∷ rs))) (then_stop (zs ++ o.listed) _ w (fit_never zs o.listed unfit))

    leaf_stops : 1 ≤ P.unknowns → (o : Option (List Component)) (w : Work) → is_whole_list P.unknowns o ≡ true → made_leaf P (case_by zs) ks o w ≡ Refused Overflow w
    leaf_stops some None w h = stops P.unknowns (leaf_premises P (case_by zs) None) w (omega arith)
    leaf_stops some (Some cs) w h = from_rows P.rows
      where
        count : length cs ≡ P.unknowns
        count = eqb-true (length cs) P.unknowns (both (length cs == P.unknowns) (list_all (λ (c : Component). same_number c.den (pos 1)) cs) h).0

        from_rows : (rs : List (List ℤ)) → go_on (made_refutations P (case_by zs) ks 0 (map (joined (leaf_forms P (case_by zs))) (map (row_premises P (case_by zs) cs) rs)) w) (all_by cs zs) ≡ Refused Overflow w
        from_rows [] =
            let long = length-map cs (sign_premises P (case_by zs)) in
            ap (λ (x : Outcome (List Refutation)). go_on x (λ (b : List Refutation). least_by cs zs >>= λ c. give ([] ++ b ++ c))) (stops 0 (map (sign_premises P (case_by zs)) cs) w (omega (arith, long, count, some)))
        from_rows (r ∷ rs) =
            let long = length-map (r ∷ rs) (row_premises P (case_by zs) cs) in
            ap (λ (x : Outcome (List Refutation)). go_on x (all_by cs zs)) (stops 0 (map (row_premises P (case_by zs) cs) (r ∷ rs)) w (omega (arith, long)))

one_same : (P : Problem) (s : ℕ) (path : List (List ℤ)) (list : Option (List Component)) (ks : List PathQuotient) (zs ys : List ℤ) (w : Work) → FitAlike zs ys
    → made_leaves P (record { scope = s; path = path; listed = zs; list = list } ∷ []) (ks ∷ []) w ≡ made_leaves P (record { scope = s; path = path; listed = ys; list = list } ∷ []) (ks ∷ []) w
one_same P s path list ks zs ys w h = ap (λ (x : Outcome (List Refutation)). go_on x (λ (p : List Refutation). give (unshared p ∷ []))) (leaf_same P s path list ks zs ys h list w)

abbrev both_by : (P : Problem) (s : ℕ) (path : List (List ℤ)) (n : ℕ) (ks : List PathQuotient) (v : List ℤ) (b : Tree) → List ℤ → List LeafProofs → Counted (List LeafProofs)
both_by P s path n ks v b ns xs = made_leaves P (leaf_cases s (path ++ opposite v ∷ []) (ns ++ opposite_listed v) b) (path_quotients (n + 1) ks b) >>= λ ys. give (xs ++ ys)

pub leaves_same : (P : Problem) (s : ℕ) (path : List (List ℤ)) (zs ys : List ℤ) (n : ℕ) (ks : List PathQuotient) (t : Tree) (w : Work) → FitAlike zs ys
    → made_leaves P (leaf_cases s path zs t) (path_quotients n ks t) w ≡ made_leaves P (leaf_cases s path ys t) (path_quotients n ks t) w
leaves_same P s path zs ys n ks Bottom w h = one_same P s path None ks zs ys w h
leaves_same P s path zs ys n ks (Leaf cs) w h = one_same P s path (Some cs) ks zs ys w h
leaves_same P s path zs ys n ks (If v a b) w h =
    leaves-if P s path zs n ks v a b w
    ∙ ap (λ (x : Outcome (List LeafProofs)). go_on x (both_by P s path n ks v b zs)) (leaves_same P s (path ++ v ∷ []) zs ys (n + 1) ks a w h)
    ∙ same_after (made_leaves P (leaf_cases s (path ++ v ∷ []) ys a) (path_quotients (n + 1) ks a) w) (both_by P s path n ks v b zs) (both_by P s path n ks v b ys)
    (λ xs u. ap (λ (x : Outcome (List LeafProofs)). go_on x (λ (ls : List LeafProofs). give (xs ++ ls))) (leaves_same P s (path ++ opposite v ∷ []) (zs ++ opposite_listed v) (ys ++ opposite_listed v) (n + 1) ks b u (alike_more zs ys (opposite_listed v) h)))
    ∙ sym (leaves-if P s path ys n ks v a b w)
leaves_same P s path zs ys n ks (NewParm v d a) w h =
    let k : Quotient = record { form = v; den = d } in
    let high = upper_bound (s + 1) s k in
    leaves_same P (s + 1) (path ++ lower_bound (s + 1) s k ∷ high ∷ []) (zs ++ constant high ∷ []) (ys ++ constant high ∷ []) (n + 2) (ks ++ record { quotient = k; bound = n + 1 } ∷ []) a w (alike_more zs ys (constant high ∷ []) h)

one_stops : (P : Problem) (s : ℕ) (path : List (List ℤ)) (list : Option (List Component)) (ks : List PathQuotient) (zs : List ℤ) (w : Work) → 1 ≤ P.unknowns → is_whole_list P.unknowns list ≡ true → all_fit zs ≡ false
    → made_leaves P (record { scope = s; path = path; listed = zs; list = list } ∷ []) (ks ∷ []) w ≡ Refused Overflow w
one_stops P s path list ks zs w some whole h = ap (λ (x : Outcome (List Refutation)). go_on x (λ (p : List Refutation). give (unshared p ∷ []))) (leaf_stops P s path list ks zs h some list w whole)

-- a number of the path does not fit: the first leaf below is refused
pub first_unfit : (P : Problem) (s : ℕ) (path : List (List ℤ)) (zs : List ℤ) (n : ℕ) (ks : List PathQuotient) (t : Tree) (w : Work) → 1 ≤ P.unknowns → are_whole P.unknowns t ≡ true → all_fit zs ≡ false
    → made_leaves P (leaf_cases s path zs t) (path_quotients n ks t) w ≡ Refused Overflow w
first_unfit P s path zs n ks Bottom w some whole h = one_stops P s path None ks zs w some refl h
first_unfit P s path zs n ks (Leaf cs) w some whole h = one_stops P s path (Some cs) ks zs w some whole h
first_unfit P s path zs n ks (If v a b) w some whole h =
    leaves-if P s path zs n ks v a b w
    ∙ ap (λ (x : Outcome (List LeafProofs)). go_on x (λ (xs : List LeafProofs). made_leaves P (leaf_cases s (path ++ opposite v ∷ []) (zs ++ opposite_listed v) b) (path_quotients (n + 1) ks b) >>= λ ys. give (xs ++ ys)))
    (first_unfit P s (path ++ v ∷ []) zs (n + 1) ks a w some (both (are_whole P.unknowns a) (are_whole P.unknowns b) whole).0 h)
first_unfit P s path zs n ks (NewParm v d a) w some whole h =
    let k : Quotient = record { form = v; den = d } in
    let high = upper_bound (s + 1) s k in
    first_unfit P (s + 1) (path ++ lower_bound (s + 1) s k ∷ high ∷ []) (zs ++ constant high ∷ []) (n + 2) (ks ++ record { quotient = k; bound = n + 1 } ∷ []) a w some whole (fit_never zs (constant high ∷ []) h)

-- ---- the certificate with the leaves below a node

abbrev adds : Certificate → List LeafProofs → Counted Certificate
adds c ls = give (record c { leaves = c.leaves ++ ls })

module _ (P : Problem) (q : TrailForms) (c : Certificate) (w : Work) where
  -- a choice
  module _ (v : List ℤ) (a b : Tree) where
    abbrev pub first : TrailForms
    first = record q { forms = q.forms ++ v ∷ [] }

    abbrev pub other : TrailForms
    other = record q { forms = q.forms ++ opposite v ∷ [] }

    one_more : (x : List ℤ) → length q.forms + 1 ≡ length (q.forms ++ x ∷ [])
    one_more x = sym (length-append q.forms (x ∷ []))

    abbrev first_leaves : Outcome (List LeafProofs)
    first_leaves = made_leaves P (leaf_cases q.scope (q.forms ++ v ∷ []) [] a) (path_quotients (length q.forms + 1) q.quotients a) w

    abbrev second_leaves : List ℤ → Counted (List LeafProofs)
    second_leaves zs = made_leaves P (leaf_cases q.scope (q.forms ++ opposite v ∷ []) zs b) (path_quotients (length q.forms + 1) q.quotients b)

    first_is : go_on first_leaves (adds c) ≡ made_below P first c a w
    first_is = ap (λ (n : ℕ). go_on (made_leaves P (leaf_cases q.scope (q.forms ++ v ∷ []) [] a) (path_quotients n q.quotients a) w) (adds c)) (one_more v)

    -- the second tree's leaves behind those of the first
    parts : made_below P q c (If v a b) w ≡ go_on (made_below P first c a w) (λ (d : Certificate). second_leaves (opposite_listed v) >>= adds d)
    parts =
        let second = second_leaves (opposite_listed v) in
        let more = λ (xs : List LeafProofs). second >>= λ ys. give (xs ++ ys) in
        let later = λ (d : Certificate). second >>= adds d in
        ap (λ (x : Outcome (List LeafProofs)). go_on x (adds c)) (leaves-if P q.scope q.forms [] (length q.forms) q.quotients v a b w)
        ∙ grouped first_leaves more (adds c)
        ∙ same_after first_leaves (λ xs. more xs >>= adds c) (λ xs. adds c xs >>= later) (λ xs u.
        grouped (second u) (λ ys. give (xs ++ ys)) (adds c)
        ∙ same_after (second u) (λ ys. adds c (xs ++ ys)) (adds (record c { leaves = c.leaves ++ xs }))
        (λ ys m. ap (λ (ls : List LeafProofs). let f : Certificate = record c { leaves = ls } in give f m) (sym (append_assoc c.leaves xs ys))))
        ∙ sym (grouped first_leaves (adds c) later)
        ∙ ap (λ (x : Outcome Certificate). go_on x later) first_is

    pub choice_stop : (f : Refusal) (u : Work) → made_below P first c a w ≡ Refused f u → made_below P q c (If v a b) w ≡ Refused f u
    choice_stop f u e = rw e at parts

    module _ (d : Certificate) (u : Work) (done : made_below P first c a w ≡ Done d u) where
      goes_on : made_below P q c (If v a b) w ≡ go_on (second_leaves (opposite_listed v) u) (adds d)
      goes_on = rw done at parts

      pub choice_next : all_fit (opposite_listed v) ≡ true → made_below P q c (If v a b) w ≡ made_below P other d b u
      choice_next h =
          goes_on
          ∙ ap (λ (x : Outcome (List LeafProofs)). go_on x (adds d)) (leaves_same P q.scope (q.forms ++ opposite v ∷ []) (opposite_listed v) [] (length q.forms + 1) q.quotients b u (alike_none (opposite_listed v) h))
          ∙ ap (λ (n : ℕ). go_on (made_leaves P (leaf_cases q.scope (q.forms ++ opposite v ∷ []) [] b) (path_quotients n q.quotients b) u) (adds d)) (one_more (opposite v))

      pub choice_unfit : 1 ≤ P.unknowns → are_whole P.unknowns b ≡ true → all_fit (opposite_listed v) ≡ false → made_below P q c (If v a b) w ≡ Refused Overflow u
      choice_unfit some whole h =
          goes_on ∙ ap (λ (x : Outcome (List LeafProofs)). go_on x (adds d)) (first_unfit P q.scope (q.forms ++ opposite v ∷ []) (opposite_listed v) (length q.forms + 1) q.quotients b u some whole h)

  -- the definition of a quotient
  module _ (v : List ℤ) (d : ℤ) (a : Tree) where
    abbrev k : Quotient
    k = record { form = v; den = d }

    abbrev pub high : List ℤ
    high = upper_bound (q.scope + 1) q.scope k

    abbrev longer : List (List ℤ)
    longer = q.forms ++ lower_bound (q.scope + 1) q.scope k ∷ high ∷ []

    abbrev more : List PathQuotient
    more = q.quotients ++ record { quotient = k; bound = length q.forms + 1 } ∷ []

    two_more : length q.forms + 2 ≡ length longer
    two_more = sym (length-append q.forms (lower_bound (q.scope + 1) q.scope k ∷ high ∷ []))

    pub definition_next : all_fit (constant high ∷ []) ≡ true → made_below P q c (NewParm v d a) w ≡ made_below P (below_quotient q v d) c a w
    definition_next h =
        ap (λ (x : Outcome (List LeafProofs)). go_on x (adds c)) (leaves_same P (q.scope + 1) longer (constant high ∷ []) [] (length q.forms + 2) more a w (alike_none (constant high ∷ []) h))
        ∙ ap (λ (n : ℕ). go_on (made_leaves P (leaf_cases (q.scope + 1) longer [] a) (path_quotients n more a) w) (adds c)) two_more

    pub definition_unfit : 1 ≤ P.unknowns → are_whole P.unknowns a ≡ true → all_fit (constant high ∷ []) ≡ false → made_below P q c (NewParm v d a) w ≡ Refused Overflow w
    definition_unfit some whole h =
        ap (λ (x : Outcome (List LeafProofs)). go_on x (adds c)) (first_unfit P (q.scope + 1) longer (constant high ∷ []) (length q.forms + 2) more a w some whole h)
