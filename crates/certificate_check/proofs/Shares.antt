-- The shared proofs of leaves by the numbers of their forms alone, and what an accepted certificate has of refutations.
use Rattle.certificate_check.proofs.Words.{◌≡◌, refl, ap, ap₂, sym, ◌∙◌, ℕ, zero, suc, ◌+◌, ◌<◌, ◌≤◌, ℤ, Bool, true, List, [], ◌∷◌, ◌++◌, length, map, drop, get_or, replicate, append_assoc, subst, arith, Ok, eqb-true, ◌==◌, Option, Some, None, length-append, length-map, length-replicate, drop-drop, drop_more, map-append, opposite, constant, widen_to, opposite_listed, Quotient, lower_bound, upper_bound, Problem, is_vector, Tree, Bottom, Leaf, If, NewParm, Component, Answer, Void, Solved, leaves, Refutation, LeafProofs, Certificate, ◌>>=◌, ◌>>◌, spot, holds, fit, after_steps, joined, carried, listed_before, check_refutations, places_from, unknown_forms, row_form, Premises, LeafCase, leaf_cases, leaf_forms, leaf_premises, row_premises, sign_premises, least_premises, smaller_from, fronts_from, check_proofs, check_leaf, check_leaves, is_whole_list, check_context, check_void, check_tree, check_by, void_forms, void_premises, proofs_at, Accepted, shareable, common_front, shared_by, after_shared, share_leaf, share_leaves, shared_leaves, renumbered, moved_index, check_leaves-if, goal_count, no_proofs, counts_from, own_sizes, sized, share_sized, share_at, share_below, IsCounted, IsCountedAt, own_goals, length-smaller_from}
use Rattle.check_laws.proofs.Paths.{length-leaf_cases}
use Rattle.check_laws.proofs.Refutations.{then_ok, holds_ok}
use Rattle.check_laws.proofs.ShareReadable.{length-places, scope_long}

-- a leaf's proofs that are checked are as many as there are to be
count_checked : (shares : Bool) (l w : ℕ) (start : Premises) (own : List Premises) (p : LeafProofs) → check_proofs shares l w start own p ≡ Ok tt → length p.refutations ≡ length own
count_checked shares l w start own p e =
    let last = λ (known : List (List ℤ)). check_refutations l 1 w (map (joined (carried shares start known)) own) p.refutations in
    let steps = after_steps l 0 0 w start.known p.shared in
    let formed = fit (spot l 0 0) (listed_before shares start) in
    let first = then_ok (holds (spot l 0 0) (length p.refutations == length own)) (formed >> (steps >>= last)) tt e in
    eqb-true (length p.refutations) (length own) (holds_ok (spot l 0 0) (length p.refutations == length own) first.0)

-- ---- by sizes

abbrev pub sizes : List Premises → List ℕ
sizes own = map (λ (o : Premises). length o.known) own

long : (n : ℕ) → length (sized n).known ≡ n
long n = length-replicate n []

shared_sized : (b : ℕ) (own : List Premises) (xs : List Refutation) → shared_by b (map sized (sizes own)) xs ≡ shared_by b own xs
shared_sized b (o ∷ []) (x ∷ xs) = ap (λ (n : ℕ). shareable b n x) (long (length o.known))
shared_sized b (o ∷ p ∷ own) (x ∷ xs) = ap₂ (λ (n : ℕ) (rest : Refutation). common_front (shareable b n x) rest) (long (length o.known)) (shared_sized b (p ∷ own) xs)
shared_sized b _ _ = refl

after_sized : (b n : ℕ) (own : List Premises) (xs : List Refutation) → after_shared b n (map sized (sizes own)) xs ≡ after_shared b n own xs
after_sized b n (o ∷ own) (x ∷ xs) = ap₂ (λ (k : ℕ) (rest : List Refutation). map (renumbered (moved_index b k n)) (drop n x) ∷ rest) (long (length o.known)) (after_sized b n own xs)
after_sized b n _ _ = refl

pub leaf_sized : (start : Premises) (own : List Premises) (p : LeafProofs) → share_sized (length start.known) (sizes own) p ≡ share_leaf start own p
leaf_sized start own p =
    let b = length start.known in
    ap (λ (first : Refutation). let made : LeafProofs = record { shared = first; refutations = after_shared b (length first) (map sized (sizes own)) p.refutations } in made) (shared_sized b own p.refutations)
    ∙ ap (λ (rest : List Refutation). let made : LeafProofs = record { shared = shared_by b own p.refutations; refutations = rest } in made) (after_sized b (length (shared_by b own p.refutations)) own p.refutations)

-- ---- the sizes of a leaf's refutations

module _ (P : Problem) (L : LeafCase) where
  abbrev unknowns : ℕ
  unknowns = P.unknowns + length P.rows

  length-unknowns : length (unknown_forms P L) ≡ unknowns
  length-unknowns =
      length-append (places_from (L.scope + P.unknowns) L.scope P.unknowns) (map (row_form P.unknowns L.scope) P.rows)
      ∙ ap₂ (λ (i j : ℕ). i + j) (length-places (L.scope + P.unknowns) L.scope P.unknowns) (length-map P.rows (row_form P.unknowns L.scope))

  ones : {X : Type 0} (f : X → Premises) (xs : List X) → ((x : X) → length (f x).known ≡ 1) → sizes (map f xs) ≡ replicate (length xs) 1
  ones f [] h = refl
  ones f (x ∷ xs) h = ap₂ (λ (n : ℕ) (rest : List ℕ). n ∷ rest) (h x) (ones f xs h)

  least_sizes : (front cs : List Component) → sizes (map (least_premises P L) (fronts_from front cs)) ≡ counts_from (unknowns + length front + 1) (length cs)
  least_sizes front [] = refl
  least_sizes front (c ∷ cs) =
      let more : length (front ++ c ∷ []) ≡ length front + 1 = length-append front (c ∷ []) in
      let first : length (unknown_forms P L ++ smaller_from (L.scope + P.unknowns) L.scope (front ++ c ∷ [])) ≡ unknowns + length front + 1
      = length-append (unknown_forms P L) (smaller_from (L.scope + P.unknowns) L.scope (front ++ c ∷ [])) ∙ (let e = length-unknowns in let f = length-smaller_from (L.scope + P.unknowns) L.scope (front ++ c ∷ []) in omega arith) in
      let next : unknowns + length (front ++ c ∷ []) + 1 ≡ unknowns + length front + 1 + 1 = omega arith in
      ap₂ (λ (n : ℕ) (rest : List ℕ). n ∷ rest) first (least_sizes (front ++ c ∷ []) cs ∙ ap (λ (n : ℕ). counts_from n (length cs)) next)

  abbrev all_one : ℕ → List ℕ
  all_one n = replicate n 1

  join_ones : (a b : ℕ) → all_one a ++ all_one b ≡ all_one (a + b)
  join_ones zero b = let e : zero + b ≡ b = omega arith in ap all_one (sym e)
  join_ones (suc a) b = let e : suc (a + b) ≡ suc a + b = omega arith in ap (λ (rest : List ℕ). 1 ∷ rest) (join_ones a b) ∙ ap all_one e

  pub sizes_are : (list : Option (List Component)) → sizes (leaf_premises P L list) ≡ own_sizes P list
  sizes_are None = ap (λ (n : ℕ). n ∷ []) length-unknowns
  sizes_are (Some cs) =
      let size = λ (o : Premises). length o.known in
      let rows = map (row_premises P L cs) P.rows in
      let signs = map (sign_premises P L) cs in
      map-append size (rows ++ signs) (map (least_premises P L) (fronts_from [] cs))
      ∙ ap₂ (λ (a b : List ℕ). a ++ b)
      (map-append size rows signs ∙ ap₂ (λ (a b : List ℕ). a ++ b) (ones (row_premises P L cs) P.rows (λ x. refl)) (ones (sign_premises P L) cs (λ x. refl)) ∙ join_ones (length P.rows) (length cs))
      (least_sizes [] cs ∙ ap (λ (n : ℕ). counts_from n (length cs)) (omega arith))

-- ---- the leaves of a tree

share_leaves-append : (P : Problem) (Ls Ms : List LeafCase) (ps : List LeafProofs) → share_leaves P (Ls ++ Ms) ps ≡ share_leaves P Ls ps ++ share_leaves P Ms (drop (length Ls) ps)
share_leaves-append P [] Ms ps = refl
share_leaves-append P (L ∷ Ls) [] [] = refl
share_leaves-append P (L ∷ Ls) (M ∷ Ms) [] = refl
share_leaves-append P (L ∷ Ls) Ms (p ∷ ps) = ap (λ (rest : List LeafProofs). share_leaf (leaf_forms P L) (leaf_premises P L L.list) p ∷ rest) (share_leaves-append P Ls Ms ps)

module _ (P : Problem) (ps : List LeafProofs) where
  one : (l w : ℕ) (path : List (List ℤ)) (listed : List ℤ) (list : Option (List Component)) → l < length ps
      → share_leaves P (record { scope = w; path = path; listed = listed; list = list } ∷ []) (drop l ps) ≡ share_at P ps (length path) l list ∷ []
  one l w path listed list h =
      let L : LeafCase = record { scope = w; path = path; listed = listed; list = list } in
      let p = get_or ps l no_proofs in
      ap (share_leaves P (L ∷ [])) (drop_more ps l no_proofs h)
      ∙ ap (λ (q : LeafProofs). q ∷ []) (sym (leaf_sized (leaf_forms P L) (leaf_premises P L list) p))
      ∙ ap₂ (λ (b : ℕ) (os : List ℕ). share_sized b os p ∷ []) (scope_long P L) (sizes_are P L list)

  pub tree_shared : (l w : ℕ) (path : List (List ℤ)) (listed : List ℤ) (t : Tree) → l + leaves t ≤ length ps → share_leaves P (leaf_cases w path listed t) (drop l ps) ≡ share_below P ps (length path) l t
  tree_shared l w path listed Bottom h = one l w path listed None (omega arith)
  tree_shared l w path listed (Leaf cs) h = one l w path listed (Some cs) (omega arith)
  tree_shared l w path listed (If v a b) h =
      let Ms = leaf_cases w (path ++ opposite v ∷ []) (listed ++ opposite_listed v) b in
      let count = length-leaf_cases w (path ++ v ∷ []) listed a in
      share_leaves-append P (leaf_cases w (path ++ v ∷ []) listed a) Ms (drop l ps)
      ∙ ap₂ (λ (xs ys : List LeafProofs). xs ++ ys)
      (tree_shared l w (path ++ v ∷ []) listed a (omega arith) ∙ ap (λ (k : ℕ). share_below P ps k l a) (length-append path (v ∷ [])))
      (ap (share_leaves P Ms) (ap (λ (k : ℕ). drop k (drop l ps)) count ∙ drop-drop (leaves a) l ps)
      ∙ tree_shared (l + leaves a) w (path ++ opposite v ∷ []) (listed ++ opposite_listed v) b (omega arith)
      ∙ ap (λ (k : ℕ). share_below P ps k (l + leaves a) b) (length-append path (opposite v ∷ [])))
  tree_shared l w path listed (NewParm v d a) h =
      let k : Quotient = record { form = v; den = d } in
      let low = lower_bound (w + 1) w k in
      let high = upper_bound (w + 1) w k in
      let n : length (path ++ low ∷ high ∷ []) ≡ length path + 2 = length-append path (low ∷ high ∷ []) in
      tree_shared l (w + 1) (path ++ low ∷ high ∷ []) (listed ++ constant high ∷ []) a h ∙ ap (λ (i : ℕ). share_below P ps i l a) n

  -- ---- an accepted certificate

  counted_leaf : (shares : Bool) (l w : ℕ) (path : List (List ℤ)) (listed : List ℤ) (list : Option (List Component)) → l < length ps
      → check_leaves P shares (l + 1) (record { scope = w; path = path; listed = listed; list = list } ∷ []) (drop l ps) ≡ Ok tt → IsCountedAt P ps l list
  counted_leaf shares l w path listed list h e =
      let L : LeafCase = record { scope = w; path = path; listed = listed; list = list } in
      let p = get_or ps l no_proofs in
      let first = then_ok (check_leaf P shares (l + 1) L p) (Ok tt) tt (sym (ap (check_leaves P shares (l + 1) (L ∷ [])) (drop_more ps l no_proofs h)) ∙ e) in
      let proofs = then_ok (holds (spot (l + 1) 0 0) (is_whole_list P.unknowns list)) (check_proofs shares (l + 1) (w + P.unknowns) (leaf_forms P L) (leaf_premises P L list) p) tt first.0 in
      (h, count_checked shares (l + 1) (w + P.unknowns) (leaf_forms P L) (leaf_premises P L list) p proofs.1 ∙ own_goals P L list)

  pub tree_counted : (shares : Bool) (l w : ℕ) (path : List (List ℤ)) (listed : List ℤ) (t : Tree) → l + leaves t ≤ length ps → check_leaves P shares (l + 1) (leaf_cases w path listed t) (drop l ps) ≡ Ok tt → IsCounted P ps l t
  tree_counted shares l w path listed Bottom h e = counted_leaf shares l w path listed None (omega arith) e
  tree_counted shares l w path listed (Leaf cs) h e = counted_leaf shares l w path listed (Some cs) (omega arith) e
  tree_counted shares l w path listed (If v a b) h e =
      let Ms = leaf_cases w (path ++ opposite v ∷ []) (listed ++ opposite_listed v) b in
      let first = check_leaves P shares (l + 1) (leaf_cases w (path ++ v ∷ []) listed a) (drop l ps) in
      let parts = then_ok first (check_leaves P shares (l + 1 + leaves a) Ms (drop (leaves a) (drop l ps))) tt (sym (check_leaves-if P shares (l + 1) w path listed v a b (drop l ps)) ∙ e) in
      let same = ap₂ (λ (k : ℕ) (qs : List LeafProofs). check_leaves P shares k Ms qs) (omega arith) (drop-drop (leaves a) l ps) in
      (tree_counted shares l w (path ++ v ∷ []) listed a (omega arith) parts.0, tree_counted shares (l + leaves a) w (path ++ opposite v ∷ []) (listed ++ opposite_listed v) b (omega arith) (sym same ∙ parts.1))
  tree_counted shares l w path listed (NewParm v d a) h e =
      let k : Quotient = record { form = v; den = d } in
      let high = upper_bound (w + 1) w k in
      tree_counted shares l (w + 1) (path ++ lower_bound (w + 1) w k ∷ high ∷ []) (listed ++ constant high ∷ []) a h e

-- ---- what an accepted certificate has

all_but_none : (vector : Option (List ℤ)) (P : Problem) (shares : Bool) (ls : List LeafProofs) → check_by P shares Void vector ls ≡ Ok tt → check_void P shares ls ≡ Ok tt
all_but_none None P shares ls e = e
all_but_none (Some p) P shares ls e = cc

module _ (P : Problem) (c : Certificate) (e : Accepted P Void c) where
  void_parts : (holds (spot 0 0 0) (length c.leaves == 1) ≡ Ok tt) × (check_proofs c.shares 1 P.params (void_forms P) void_premises (proofs_at c.leaves 1) ≡ Ok tt)
  void_parts = then_ok (holds (spot 0 0 0) (length c.leaves == 1)) (check_proofs c.shares 1 P.params (void_forms P) void_premises (proofs_at c.leaves 1)) tt (all_but_none c.vector P c.shares c.leaves e)

  pub void_count : length c.leaves ≡ 1
  void_count = eqb-true (length c.leaves) 1 (holds_ok (spot 0 0 0) (length c.leaves == 1) void_parts.0)

  length-void : length (void_forms P).known ≡ P.params + length P.context
  length-void =
      length-append (places_from P.params 0 P.params) (map (widen_to P.params) P.context)
      ∙ ap₂ (λ (i j : ℕ). i + j) (length-places P.params 0 P.params) (length-map P.context (widen_to P.params))

  alone_is : (ls : List LeafProofs) → length ls ≡ 1 → ls ≡ get_or ls 0 no_proofs ∷ []
  alone_is (p ∷ []) h = refl
  alone_is _ h = absurd (omega arith)

  pub void_shared : shared_leaves P Void c.leaves ≡ share_sized (P.params + length P.context) (0 ∷ []) (get_or c.leaves 0 no_proofs) ∷ []
  void_shared =
      let p = get_or c.leaves 0 no_proofs in
      ap (map (share_leaf (void_forms P) void_premises)) (alone_is c.leaves void_count)
      ∙ ap (λ (q : LeafProofs). q ∷ []) (sym (leaf_sized (void_forms P) void_premises p) ∙ ap (λ (b : ℕ). share_sized b (0 ∷ []) p) length-void)

no_void : (vector : Option (List ℤ)) (P : Problem) (shares : Bool) (t : Tree) (ls : List LeafProofs) → check_by P shares (Solved t) vector ls ≡ Ok tt → (p : List ℤ) × (check_tree P shares t p ls ≡ Ok tt)
no_void None P shares t ls e = cc
no_void (Some p) P shares t ls e = (p, e)

module _ (P : Problem) (t : Tree) (c : Certificate) (e : Accepted P (Solved t) c) where
  leaves_part : (holds (spot 0 0 0) (length c.leaves == leaves t) ≡ Ok tt) × (check_leaves P c.shares 1 (leaf_cases P.params [] [] t) c.leaves ≡ Ok tt)
  leaves_part =
      let found = no_void c.vector P c.shares t c.leaves e in
      let count = holds (spot 0 0 0) (length c.leaves == leaves t) in
      let last = check_leaves P c.shares 1 (leaf_cases P.params [] [] t) c.leaves in
      let first = then_ok (holds (spot 0 0 0) (is_vector P.params found.0)) (check_context P.context found.0 >> (count >> last)) tt found.1 in
      let second = then_ok (check_context P.context found.0) (count >> last) tt first.1 in
      then_ok count last tt second.1

  tree_count : length c.leaves ≡ leaves t
  tree_count = eqb-true (length c.leaves) (leaves t) (holds_ok (spot 0 0 0) (length c.leaves == leaves t) leaves_part.0)

  pub accepted_counted : IsCounted P c.leaves 0 t
  accepted_counted = tree_counted P c.leaves c.shares 0 P.params [] [] t (let n = tree_count in omega arith) leaves_part.1

  pub accepted_shared : shared_leaves P (Solved t) c.leaves ≡ share_below P c.leaves 0 0 t
  accepted_shared = tree_shared P c.leaves 0 P.params [] [] t (let n = tree_count in omega arith)

-- ---- leaf by leaf

length-counts : (n k : ℕ) → length (counts_from n k) ≡ k
length-counts n zero = refl
length-counts n (suc k) = ap suc (length-counts (n + 1) k)

pub length_sizes : (P : Problem) (list : Option (List Component)) → length (own_sizes P list) ≡ goal_count P list
length_sizes P None = refl
length_sizes P (Some cs) =
    let front : List ℕ = replicate (length P.rows + length cs) 1 in
    let e : length front ≡ length P.rows + length cs = length-replicate (length P.rows + length cs) 1 in
    let f = length-counts (P.unknowns + length P.rows + 1) (length cs) in
    length-append front (counts_from (P.unknowns + length P.rows + 1) (length cs)) ∙ omega arith

length-below : (P : Problem) (ps : List LeafProofs) (n l : ℕ) (t : Tree) → length (share_below P ps n l t) ≡ leaves t
length-below P ps n l Bottom = refl
length-below P ps n l (Leaf cs) = refl
length-below P ps n l (If v a b) =
    length-append (share_below P ps (n + 1) l a) (share_below P ps (n + 1) (l + leaves a) b)
    ∙ ap₂ (λ (i j : ℕ). i + j) (length-below P ps (n + 1) l a) (length-below P ps (n + 1) (l + leaves a) b)
length-below P ps n l (NewParm v d a) = length-below P ps (n + 2) l a

module _ (P : Problem) (ps : List LeafProofs) (n : ℕ) (v : List ℤ) (a b t : Tree) (is : t ≡ If v a b) (old mid : Certificate) (first : mid ≡ record old { leaves = old.leaves ++ share_below P ps (n + 1) (length old.leaves) a }) where
  pub second_place : length mid.leaves ≡ length old.leaves + leaves a
  second_place =
      ap (λ (c : Certificate). length c.leaves) first
      ∙ length-append old.leaves (share_below P ps (n + 1) (length old.leaves) a)
      ∙ ap (λ (k : ℕ). length old.leaves + k) (length-below P ps (n + 1) (length old.leaves) a)

  pub second_counted : IsCounted P ps (length old.leaves) t → IsCounted P ps (length mid.leaves) b
  second_counted h =
      let both_trees = subst (λ (s : Tree). IsCounted P ps (length old.leaves) s) is h in
      subst (λ (k : ℕ). IsCounted P ps k b) (sym second_place) both_trees.1

  pub both_shared : (now : Certificate) → now ≡ record mid { leaves = mid.leaves ++ share_below P ps (n + 1) (length mid.leaves) b } → now ≡ record old { leaves = old.leaves ++ share_below P ps n (length old.leaves) t }
  both_shared now e =
      let A = share_below P ps (n + 1) (length old.leaves) a in
      let B = share_below P ps (n + 1) (length old.leaves + leaves a) b in
      e ∙ ap₂ (λ (c : Certificate) (k : ℕ). let d : Certificate = record c { leaves = c.leaves ++ share_below P ps (n + 1) k b } in d) first second_place
      ∙ ap (λ (xs : List LeafProofs). let d : Certificate = record old { leaves = xs } in d)
      (append_assoc old.leaves A B ∙ ap (λ (s : Tree). old.leaves ++ share_below P ps n (length old.leaves) s) (sym is))

-- ---- the certificate that is made

abbrev pub made_of : Problem → Answer → Certificate → Certificate
made_of P a c = record { shares = true; vector = c.vector; leaves = shared_leaves P a c.leaves }

abbrev from : Certificate → List LeafProofs → Certificate
from c ls = record { shares = true; vector = c.vector; leaves = ls }

first_same : (ls : List LeafProofs) (d : LeafProofs) (x : LeafProofs) → length ls ≡ 1 → get_or ls 0 x ≡ get_or ls 0 d
first_same [] d x h = absurd (omega arith)
first_same (p ∷ ls) d x h = refl

module _ (P : Problem) (a : Answer) (c start now : Certificate) (e : Accepted P a c) (empty : start ≡ record { shares = true; vector = c.vector; leaves = [] }) where
  pub void_made : (x y : LeafProofs) (b : ℕ) → a ≡ Void → x ≡ get_or c.leaves 0 x → b ≡ P.params + length P.context → y ≡ share_sized b (0 ∷ []) x
      → now ≡ record start { leaves = start.leaves ++ y ∷ [] } → now ≡ made_of P a c
  void_made x y b is at size f g =
      let accepted : Accepted P Void c = subst (λ (d : Answer). Accepted P d c) is e in
      let first : x ≡ get_or c.leaves 0 no_proofs = at ∙ first_same c.leaves no_proofs x (void_count P c accepted) in
      g ∙ ap (λ (d : Certificate). let r : Certificate = record d { leaves = d.leaves ++ y ∷ [] } in r) empty
      ∙ ap (λ (z : LeafProofs). from c (z ∷ [])) (f ∙ ap₂ (λ (n : ℕ) (z : LeafProofs). share_sized n (0 ∷ []) z) size first)
      ∙ ap (from c) (sym (void_shared P c accepted) ∙ ap (λ (d : Answer). shared_leaves P d c.leaves) (sym is))

  pub tree_made : (t : Tree) → a ≡ Solved t → now ≡ record start { leaves = start.leaves ++ share_below P c.leaves 0 (length start.leaves) t } → now ≡ made_of P a c
  tree_made t is g =
      let accepted : Accepted P (Solved t) c = subst (λ (d : Answer). Accepted P d c) is e in
      g ∙ ap (λ (d : Certificate). let r : Certificate = record d { leaves = d.leaves ++ share_below P c.leaves 0 (length d.leaves) t } in r) empty
      ∙ ap (from c) (sym (accepted_shared P t c accepted) ∙ ap (λ (d : Answer). shared_leaves P d c.leaves) (sym is))
