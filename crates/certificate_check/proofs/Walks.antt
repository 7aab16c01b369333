-- The leaves below a node: first those of its first tree, and the first of them where a number of the path does not fit.
use Rattle.certificate_check.proofs.Words.{◌≡◌, refl, ap, ap₂, sym, ◌∙◌, ℕ, zero, suc, ◌+◌, ◌<◌, ◌≤◌, ℤ, Bool, true, false, ◌&&◌, List, [], ◌∷◌, ◌++◌, length, map, take, drop, get_or, arith, subst, Ok, Err, eqb-true, if◌then◌else◌, ◌==◌, All, Option, Some, None, IfSome, drop-drop, drop_more, take_at, ◌>>=◌, ◌>>◌, opposite, constant, all_fit, opposite_listed, Quotient, lower_bound, upper_bound, Problem, Tree, Bottom, Leaf, If, NewParm, Component, leaves, Refutation, LeafProofs, Spot, spot, CheckFault, Rejected, Unfit, Checks, holds, fit, after_steps, Premises, LeafCase, leaf_cases, leaf_forms, leaf_premises, joined, check_refutation, check_refutations, check_leaf, check_leaves, is_whole_list, both, fit_never, check_leaves-if, goal_count, PathForms, first_list, path_fault, no_proofs, own_goals, whole_count}
use Rattle.std.specs.List.{list_all}
use Rattle.pip_model.specs.Printed.{steps_fit, shared_fit, leaf_fits}
use Rattle.certificate_check.specs.Walks.{below, IsAt}
use Rattle.certificate_check.specs.declared.walk.TreeCheck.{TreeCheck}
use Rattle.certificate_check.proofs.Numbers.{leaves_same}

-- ---- tests of a list

pub passes_at : {X : Type 0} (p : X → Bool) (xs : List X) (i : ℕ) (d : X) → list_all p xs ≡ true → i < length xs → p (get_or xs i d) ≡ true
passes_at p [] i d h k = absurd (omega arith)
passes_at p (x ∷ xs) zero d h k = (both (p x) (list_all p xs) h).0
passes_at p (x ∷ xs) (suc i) d h k = passes_at p xs i d (both (p x) (list_all p xs) h).1 (omega arith)

-- ---- a leaf where a number of its path does not fit

abbrev failed : {A : Type 0} → CheckFault → Checks A
failed f = Err f

first_stops : {A : Type 0} (first : Checks (Unit {0})) (rest : Checks A) (f : CheckFault) → first ≡ Err f → (first >> rest) ≡ Err f
first_stops (Ok x) rest f e = cc
first_stops (Err g) rest f e = let same : g ≡ f = cc in ap (λ (h : CheckFault). failed h) same

unfit : {A : Type 0} (at : Spot) (zs : List ℤ) (rest : Checks A) → all_fit zs ≡ false → (fit at zs >> rest) ≡ Err (Unfit at)
unfit at zs rest h = go (all_fit zs) h
  where
    go : (b : Bool) → b ≡ false → ((if b then Ok (tt {0}) else Err (Unfit at)) >> rest) ≡ Err (Unfit at)
    go true e = cc
    go false e = refl

refutations_unfit : (l w : ℕ) (known : List (List ℤ)) (zs : List ℤ) (own : List Premises) (xs : List Refutation) → 0 < length own → length xs ≡ length own → all_fit zs ≡ false
    → check_refutations l 1 w (map (joined (record { known = known; listed = zs })) own) xs ≡ Err (Unfit (spot l 1 0))
refutations_unfit l w known zs [] xs some same h = absurd (omega arith)
refutations_unfit l w known zs (o ∷ own) [] some same h = absurd (omega arith)
refutations_unfit l w known zs (o ∷ own) (x ∷ xs) some same h =
    let start = joined (record { known = known; listed = zs }) o in
    first_stops (check_refutation l 1 w start x) (check_refutations l (1 + 1) w (map (joined (record { known = known; listed = zs })) own) xs) (Unfit (spot l 1 0))
    (unfit (spot l 1 0) (zs ++ o.listed) _ (fit_never zs o.listed h))

-- the place of the fault
abbrev pub fault_at : Bool → ℕ → CheckFault
fault_at shares l = Unfit (spot l (if shares then 0 else 1) 0)

proofs_unfit : (shares : Bool) (l w : ℕ) (known : List (List ℤ)) (zs : List ℤ) (own : List Premises) (p : LeafProofs) → 0 < length own → length p.refutations ≡ length own → all_fit zs ≡ false → leaf_fits shares p ≡ true
    → (fit (spot l 0 0) (if shares then zs else []) >> (after_steps l 0 0 w known p.shared >>= (λ (now : List (List ℤ)). check_refutations l 1 w (map (joined (record { known = now; listed = if shares then [] else zs })) own) p.refutations)))
    ≡ Err (fault_at shares l)
proofs_unfit true l w known zs own p some same h f = unfit (spot l 0 0) zs _ h
proofs_unfit false l w known zs own p some same h f =
    let none : p.shared ≡ [] = nothing_shared p.shared (both (length p.shared == 0) (steps_fit p.shared) (both (shared_fit false p.shared) (list_all steps_fit p.refutations) f).0).0 in
    ap (λ (ss : Refutation). after_steps l 0 0 w known ss >>= (λ (now : List (List ℤ)). check_refutations l 1 w (map (joined (record { known = now; listed = zs })) own) p.refutations)) none
    ∙ refutations_unfit l w known zs own p.refutations some same h
  where
    nothing_shared : (ss : Refutation) → (length ss == 0) ≡ true → ss ≡ []
    nothing_shared [] e = refl
    nothing_shared (s ∷ ss) e = let none : length (s ∷ ss) ≡ 0 = eqb-true (length (s ∷ ss)) 0 e in absurd (omega arith)

some_goals : (P : Problem) (list : Option (List Component)) → 0 < P.unknowns → is_whole_list P.unknowns list ≡ true → 0 < goal_count P list
some_goals P None some h = omega arith
some_goals P (Some cs) some h = let count = whole_count P.unknowns cs h in omega arith

both_hold : (shares : Bool) (l : ℕ) (b c : Bool) (rest : Checks (Unit {0})) → (b ≡ true → c ≡ true → rest ≡ Err (fault_at shares l))
    → (holds (spot l 0 0) b >> (holds (spot l 0 0) c >> rest)) ≡ Err (if b && c then fault_at shares l else Rejected (spot l 0 0))
both_hold shares l true true rest k = k refl refl
both_hold shares l _ _ rest k = refl

leaf_unfit : (P : Problem) (shares : Bool) (l : ℕ) (L : LeafCase) (p : LeafProofs) → 0 < P.unknowns → all_fit L.listed ≡ false → leaf_fits shares p ≡ true → check_leaf P shares l L p ≡ Err (path_fault P shares l L.list p)
leaf_unfit P shares l L p some h f =
    let own = leaf_premises P L L.list in
    let goals : length own ≡ goal_count P L.list = own_goals P L L.list in
    both_hold shares l (is_whole_list P.unknowns L.list) (length p.refutations == length own) _
    (λ b c. proofs_unfit shares l (L.scope + P.unknowns) (leaf_forms P L).known L.listed own p (let k = some_goals P L.list some b in omega arith) (eqb-true (length p.refutations) (length own) c) h f)
    ∙ ap (λ (n : ℕ). failed (if is_whole_list P.unknowns L.list && (length p.refutations == n) then fault_at shares l else Rejected (spot l 0 0))) goals

module _ (P : Problem) (shares : Bool) (some : 0 < P.unknowns) where
  pub first_unfit : (l w : ℕ) (path : List (List ℤ)) (listed : List ℤ) (t : Tree) (p : LeafProofs) (ps : List LeafProofs) → all_fit listed ≡ false → leaf_fits shares p ≡ true
      → check_leaves P shares l (leaf_cases w path listed t) (p ∷ ps) ≡ Err (path_fault P shares l (first_list t) p)
  first_unfit l w path listed Bottom p ps h f =
      first_stops (check_leaf P shares l (record { scope = w; path = path; listed = listed; list = None }) p) (Ok tt) _ (leaf_unfit P shares l (record { scope = w; path = path; listed = listed; list = None }) p some h f)
  first_unfit l w path listed (Leaf cs) p ps h f =
      first_stops (check_leaf P shares l (record { scope = w; path = path; listed = listed; list = Some cs }) p) (Ok tt) _ (leaf_unfit P shares l (record { scope = w; path = path; listed = listed; list = Some cs }) p some h f)
  first_unfit l w path listed (If v a b) p ps h f =
      check_leaves-if P shares l w path listed v a b (p ∷ ps)
      ∙ first_stops _ (check_leaves P shares (l + leaves a) (leaf_cases w (path ++ opposite v ∷ []) (listed ++ opposite_listed v) b) (drop (leaves a) (p ∷ ps))) (path_fault P shares l (first_list a) p)
      (first_unfit l w (path ++ v ∷ []) listed a p ps h f)
  first_unfit l w path listed (NewParm v d a) p ps h f =
      let k : Quotient = record { form = v; den = d } in
      let high = upper_bound (w + 1) w k in
      first_unfit l (w + 1) (path ++ lower_bound (w + 1) w k ∷ high ∷ []) (listed ++ constant high ∷ []) a p ps (fit_never listed (constant high ∷ []) h) f

-- ---- the leaves below a node, from place l of the proofs on

module _ (P : Problem) (shares : Bool) (ps : List LeafProofs) where
  abbrev pub under : ℕ → ℕ → List (List ℤ) → Tree → Checks (Unit {0})
  under l w path t = check_leaves P shares (l + 1) (leaf_cases w path [] t) (drop l ps)

  -- a choice
  module _ (l w : ℕ) (path : List (List ℤ)) (v : List ℤ) (a b : Tree) where
    second : List LeafProofs → ℕ → List ℤ → Checks (Unit {0})
    second qs n listed = check_leaves P shares n (leaf_cases w (path ++ opposite v ∷ []) listed b) qs

    select_parts : under l w path (If v a b) ≡ (under l w (path ++ v ∷ []) a >> second (drop (l + leaves a) ps) (l + leaves a + 1) (opposite_listed v))
    unfolding second
    select_parts =
        let e : l + 1 + leaves a ≡ l + leaves a + 1 = omega arith in
        check_leaves-if P shares (l + 1) w path [] v a b (drop l ps)
        ∙ ap₂ (λ (n : ℕ) (qs : List LeafProofs). under l w (path ++ v ∷ []) a >> second qs n (opposite_listed v)) e (drop-drop (leaves a) l ps)

    goes_on : under l w (path ++ v ∷ []) a ≡ Ok tt → under l w path (If v a b) ≡ second (drop (l + leaves a) ps) (l + leaves a + 1) (opposite_listed v)
    goes_on e = select_parts ∙ ap (λ (x : Checks (Unit {0})). x >> second (drop (l + leaves a) ps) (l + leaves a + 1) (opposite_listed v)) e

    pub select_next : under l w (path ++ v ∷ []) a ≡ Ok tt → all_fit (opposite_listed v) ≡ true → under l w path (If v a b) ≡ under (l + leaves a) w (path ++ opposite v ∷ []) b
    unfolding second
    select_next e h = goes_on e ∙ leaves_same P shares (l + leaves a + 1) w (path ++ opposite v ∷ []) (opposite_listed v) [] b (drop (l + leaves a) ps) h

    pub select_stop : (o : Option CheckFault) → IfSome o (λ f. under l w (path ++ v ∷ []) a ≡ Err f) → IfSome o (λ f. under l w path (If v a b) ≡ Err f)
    select_stop None e = tt
    select_stop (Some f) e = select_parts ∙ first_stops (under l w (path ++ v ∷ []) a) (second (drop (l + leaves a) ps) (l + leaves a + 1) (opposite_listed v)) f e

    pub select_unfit : 0 < P.unknowns → list_all (leaf_fits shares) ps ≡ true → l + leaves a < length ps → under l w (path ++ v ∷ []) a ≡ Ok tt → all_fit (opposite_listed v) ≡ false
        → under l w path (If v a b) ≡ Err (path_fault P shares (l + leaves a + 1) (first_list b) (get_or ps (l + leaves a) no_proofs))
    unfolding second
    select_unfit some f h e k =
        let at = l + leaves a in
        goes_on e
        ∙ ap (check_leaves P shares (at + 1) (leaf_cases w (path ++ opposite v ∷ []) (opposite_listed v) b)) (drop_more ps at no_proofs h)
        ∙ first_unfit P shares some (at + 1) w (path ++ opposite v ∷ []) (opposite_listed v) b (get_or ps at no_proofs) (drop (at + 1) ps) k (passes_at (leaf_fits shares) ps at no_proofs f h)

  -- the definition of a quotient
  module _ (l w : ℕ) (path : List (List ℤ)) (v : List ℤ) (d : ℤ) (a : Tree) where
    abbrev pub quotient : Quotient
    quotient = record { form = v; den = d }

    abbrev pub high : List ℤ
    high = upper_bound (w + 1) w quotient

    abbrev pub longer : List (List ℤ)
    longer = path ++ lower_bound (w + 1) w quotient ∷ high ∷ []

    pub define_next : all_fit (constant high ∷ []) ≡ true → under l w path (NewParm v d a) ≡ under l (w + 1) longer a
    define_next h = leaves_same P shares (l + 1) (w + 1) longer (constant high ∷ []) [] a (drop l ps) h

    pub define_unfit : 0 < P.unknowns → list_all (leaf_fits shares) ps ≡ true → l < length ps → all_fit (constant high ∷ []) ≡ false
        → under l w path (NewParm v d a) ≡ Err (path_fault P shares (l + 1) (first_list a) (get_or ps l no_proofs))
    define_unfit some f h k =
        ap (check_leaves P shares (l + 1) (leaf_cases (w + 1) longer (constant high ∷ []) a)) (drop_more ps l no_proofs h)
        ∙ first_unfit P shares some (l + 1) (w + 1) longer (constant high ∷ []) a (get_or ps l no_proofs) (drop (l + 1) ps) k (passes_at (leaf_fits shares) ps l no_proofs f h)

pub some_leaves : (t : Tree) → 0 < leaves t
some_leaves (If v a b) = let e = some_leaves a in omega arith
some_leaves (NewParm v d a) = some_leaves a
some_leaves _ = omega arith

-- ---- where the walk is

-- back at a node
module _ (path now : PathForms) (rest : List (List ℤ)) (n s : ℕ) (forms : now.forms ≡ path.forms ++ rest) (count : n ≡ length path.forms) (scope : s ≡ path.scope) where
  taken : take n now.forms ≡ path.forms
  taken = ap₂ (λ (k : ℕ) (xs : List (List ℤ)). take k xs) count forms ∙ take_at path.forms rest (length path.forms) refl

  pub back_is : record { scope = s; forms = take n now.forms } ≡ path
  back_is = ap₂ (λ (k : ℕ) (xs : List (List ℤ)). let q : PathForms = record { scope = k; forms = xs } in q) scope taken

  pub back_within : All (λ (c : List ℤ). length c ≤ path.scope + 1) path.forms → All (λ (c : List ℤ). length c ≤ s + 1) (take n now.forms)
  back_within h = subst (λ (q : PathForms). All (λ (c : List ℤ). length c ≤ q.scope + 1) q.forms) (sym back_is) h

-- a refusal
refused_at : (overflow : Bool) (fault : CheckFault) (found : Checks (Unit {0})) (o : Option CheckFault) → o ≡ (if overflow then Some fault else None) → (overflow ≡ true → found ≡ Err fault) → IfSome o (λ f. found ≡ Err f)
refused_at true fault found o e h = subst (λ (p : Option CheckFault). IfSome p (λ f. found ≡ Err f)) (sym e) (h refl)
refused_at false fault found o e h = subst (λ (p : Option CheckFault). IfSome p (λ f. found ≡ Err f)) (sym e) tt

module _ (w : TreeCheck) (l : ℕ) (path : PathForms) (t : Tree) (at : IsAt w l path.scope t) where
  abbrev proofs : List LeafProofs
  proofs = w.proofs.now

  module _ (v : List ℤ) (a b : Tree) (is : t ≡ If v a b) (first : PathForms) (down : first ≡ record path { forms = path.forms ++ v ∷ [] }) where
    here : below w l path t ≡ below w l path (If v a b)
    here = ap (below w l path) is

    pub choice_stop : (o : Option CheckFault) → IfSome o (λ f. below w l first a ≡ Err f) → IfSome o (λ f. below w l path t ≡ Err f)
    choice_stop o h =
        subst (λ (s : Tree). IfSome o (λ (f : CheckFault). below w l path s ≡ Err f)) (sym is)
        (select_stop w.problem.now w.shares proofs l path.scope path.forms v a b o (subst (λ (q : PathForms). IfSome o (λ (f : CheckFault). below w l q a ≡ Err f)) down h))

    passed : below w l first a ≡ Ok tt → below w l (record path { forms = path.forms ++ v ∷ [] }) a ≡ Ok tt
    passed e = sym (ap (λ (q : PathForms). below w l q a) down) ∙ e

    pub choice_place : (n : ℕ) → n ≡ l + leaves a → n < length proofs
    choice_place n e = let more = some_leaves b in let all : leaves t ≡ leaves a + leaves b = ap leaves is in omega (arith, at.proofs)

    pub choice_next : (n : ℕ) (second : PathForms) → n ≡ l + leaves a → second ≡ record path { forms = path.forms ++ opposite v ∷ [] } → below w l first a ≡ Ok tt → all_fit (opposite_listed v) ≡ true → below w l path t ≡ below w n second b
    choice_next n second e g h k =
        here ∙ select_next w.problem.now w.shares proofs l path.scope path.forms v a b (passed h) k
        ∙ sym (ap₂ (λ (i : ℕ) (q : PathForms). below w i q b) e g)

    pub choice_unfit : (overflow : Bool) (o : Option CheckFault) (n : ℕ) → n ≡ l + leaves a → below w l first a ≡ Ok tt → (overflow ≡ true → all_fit (opposite_listed v) ≡ false)
        → o ≡ (if overflow then Some (path_fault w.problem.now w.shares (n + 1) (first_list b) (get_or proofs n no_proofs)) else None) → IfSome o (λ f. below w l path t ≡ Err f)
    choice_unfit overflow o n e h k g =
        refused_at overflow (path_fault w.problem.now w.shares (n + 1) (first_list b) (get_or proofs n no_proofs)) (below w l path t) o g
        (λ y. here
        ∙ select_unfit w.problem.now w.shares proofs l path.scope path.forms v a b at.some at.format (choice_place (l + leaves a) refl) (passed h) (k y)
        ∙ ap (λ (i : ℕ). failed (path_fault w.problem.now w.shares (i + 1) (first_list b) (get_or proofs i no_proofs))) (sym e))

  module _ (v : List ℤ) (d : ℤ) (a : Tree) (is : t ≡ NewParm v d a) where
    pub definition_place : l < length proofs
    definition_place = let more = some_leaves a in let all : leaves t ≡ leaves a = ap leaves is in omega (arith, at.proofs)

    pub definition_next : (inner : PathForms) → inner ≡ record { scope = path.scope + 1; forms = longer w.problem.now w.shares proofs l path.scope path.forms v d a } → all_fit (constant (high w.problem.now w.shares proofs l path.scope path.forms v d a) ∷ []) ≡ true
        → below w l path t ≡ below w l inner a
    definition_next inner g k =
        ap (below w l path) is ∙ define_next w.problem.now w.shares proofs l path.scope path.forms v d a k ∙ sym (ap (λ (q : PathForms). below w l q a) g)

    pub definition_stop : (inner : PathForms) (o : Option CheckFault) → inner ≡ record { scope = path.scope + 1; forms = longer w.problem.now w.shares proofs l path.scope path.forms v d a } → all_fit (constant (high w.problem.now w.shares proofs l path.scope path.forms v d a) ∷ []) ≡ true
        → IfSome o (λ f. below w l inner a ≡ Err f) → IfSome o (λ f. below w l path t ≡ Err f)
    definition_stop inner o g k h = subst (λ (x : Checks (Unit {0})). IfSome o (λ (f : CheckFault). x ≡ Err f)) (sym (definition_next inner g k)) h

    pub definition_unfit : (overflow : Bool) (o : Option CheckFault) → (overflow ≡ true → all_fit (constant (high w.problem.now w.shares proofs l path.scope path.forms v d a) ∷ []) ≡ false)
        → o ≡ (if overflow then Some (path_fault w.problem.now w.shares (l + 1) (first_list a) (get_or proofs l no_proofs)) else None) → IfSome o (λ f. below w l path t ≡ Err f)
    definition_unfit overflow o k g =
        refused_at overflow (path_fault w.problem.now w.shares (l + 1) (first_list a) (get_or proofs l no_proofs)) (below w l path t) o g
        (λ y. ap (below w l path) is ∙ define_unfit w.problem.now w.shares proofs l path.scope path.forms v d a at.some at.format definition_place (k y))

pub if_some_along : (o : Option CheckFault) (x y : Checks (Unit {0})) → x ≡ y → IfSome o (λ f. y ≡ Err f) → IfSome o (λ f. x ≡ Err f)
if_some_along o x y e h = subst (λ (z : Checks (Unit {0})). IfSome o (λ (f : CheckFault). z ≡ Err f)) (sym e) h
