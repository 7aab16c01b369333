-- From the forms of one goal of a list to those of the next.
use Rattle.leaf_check.proofs.Words.{subst, Option, option_copied, Ok, Err, Result, OnOk, case_of, ap₂, ◌≡◌, refl, ap, sym, ◌∙◌, ℕ, zero, suc, ◌+◌, ◌-◌, ◌<◌, ℤ, pos, List, [], ◌∷◌, ◌++◌, length, take, drop, get_or, append_assoc, arith, inl, inr, slice_index_or, Some, length-append, length-take, take_at, take-take, get_or_append_left, get_or-append_right, get_or-map, constant, Problem, Component, LeafCase, Premises, leaf_premises, unknown_forms, row_premises, sign_premises, least_premises, not_above, smaller_from, KnownForms, nothing, without_last, add-one, AreMore, own_forms, staying, take-append-drop}
use Rattle.std.proofs.Math.Seq.{take-append-add, drop-append_seam}
use Rattle.leaf_check.specs.declared.leaf.Leaf.{Leaf}
use Rattle.std.proofs.lemmas.Bool.{cases_lt}
use Rattle.leaf_check.proofs.Owned.{rows, signs, lasts, length-rows, length-both, own_least}
use Rattle.leaf_check.proofs.Smaller.{length-smaller_from}

-- behind these forms stands one
pub without_one : (F xs : List (List ℤ)) → length xs ≡ 1 → without_last (F ++ xs) ≡ F
without_one F xs h = ap (λ (k : ℕ). take k (F ++ xs)) (omega (arith, length-append F xs, h)) ∙ take_at F xs (length F) refl

-- forms put behind others are what comes behind these
pub more_if_ok : {X E : Type 0} (l : Leaf) (r : ℕ) (result : Result X E) (old new : KnownForms) (more : List (List ℤ)) → OnOk result (new ≡ record old { forms = old.forms ++ more }) → AreMore l r more
    → OnOk result (AreMore l r (drop (length old.forms) new.forms))
more_if_ok l r (Ok x) old new more is h =
    let forms : drop (length old.forms) new.forms ≡ more = ap (λ (k : KnownForms). drop (length old.forms) k.forms) is ∙ drop-append_seam old.forms more in
    λ front. ap (λ (xs : List (List ℤ)). staying l r front ++ xs) forms ∙ h front
more_if_ok l r (Err e) old new more is h = tt

-- of a goal of one form nothing stays
pub more_of_one : (l : Leaf) (r : ℕ) {more : List (List ℤ)} → length (own_forms l r) ≡ 1 → more ≡ own_forms l (r + 1) → AreMore l (r + 1) more
more_of_one l r {more = more} one is = λ front.
    rw (add-one r) (ap₂ (λ (xs ys : List (List ℤ)). xs ++ ys) (without_one front (own_forms l r) one) (subst (λ (n : ℕ). more ≡ own_forms l n) (add-one r) is))

pub more_by_list : (l : Leaf) (cs : List Component) (r : ℕ) (more : List (List ℤ)) → option_copied l.list ≡ Some cs
    → ((F : List (List ℤ)) → without_last (F ++ (slice_index_or (leaf_premises l.problem.now (case_of l) (Some cs)) r nothing).known) ++ more ≡ F ++ (slice_index_or (leaf_premises l.problem.now (case_of l) (Some cs)) (r + 1) nothing).known)
    → AreMore l (r + 1) more
more_by_list l cs r more list h = λ front.
    let by : without_last (front ++ own_forms l r) ++ more ≡ front ++ own_forms l (r + 1)
    = subst (λ (o : Option (List Component)). without_last (front ++ (slice_index_or (leaf_premises l.problem.now (case_of l) o) r nothing).known) ++ more ≡ front ++ (slice_index_or (leaf_premises l.problem.now (case_of l) o) (r + 1) nothing).known) (sym list) (h front) in
    rw (add-one r) (subst (λ (n : ℕ). without_last (front ++ own_forms l r) ++ more ≡ front ++ own_forms l n) (add-one r) by)

-- ---- goals of one form

module _ (P : Problem) (L : LeafCase) (cs : List Component) where
  one_of_row : (r : ℕ) → r < length P.rows → length (get_or (rows P L cs) r nothing).known ≡ 1
  one_of_row r h = ap (λ (s : Premises). length s.known) (get_or-map (row_premises P L cs) P.rows r [] nothing h)

  one_of_sign : (i : ℕ) → i < length cs → length (get_or (signs P L cs) i nothing).known ≡ 1
  one_of_sign i h = ap (λ (s : Premises). length s.known) (get_or-map (sign_premises P L) cs i (record { den = pos 1; form = [] }) nothing h)

  one_of_both : (r : ℕ) → r < length P.rows + length cs → length (get_or (rows P L cs ++ signs P L cs) r nothing).known ≡ 1
  one_of_both r h = elim (cases_lt r (length P.rows)) [
    | inl k ↦ ap (λ (s : Premises). length s.known) (get_or_append_left (rows P L cs) (signs P L cs) nothing r (omega (arith, length-rows P L cs, k))) ∙ one_of_row r k
    | inr k ↦
        ap (λ (s : Premises). length s.known) (get_or-append_right (rows P L cs) (signs P L cs) (length P.rows) r nothing (length-rows P L cs) k)
        ∙ one_of_sign (r - length P.rows) (omega (arith, h, k))
  ]

  pub one_of_own : (r : ℕ) → r < length P.rows + length cs → length (slice_index_or (leaf_premises P L (Some cs)) r nothing).known ≡ 1
  one_of_own r h =
      ap (λ (s : Premises). length s.known) (get_or_append_left (rows P L cs ++ signs P L cs) (lasts P L cs) nothing r (omega (arith, length-both P L cs, h)))
      ∙ one_of_both r h

-- ---- goals of a smaller point

-- where the last component is left out, the goal is the same up to the one before
front_smaller : (all place : ℕ) (cs : List Component) (n : ℕ) → take n (smaller_from all place (take (suc n) cs)) ≡ take n (smaller_from all place cs)
front_smaller all place [] n = refl
front_smaller all place (c ∷ cs) zero = refl
front_smaller all place (c ∷ []) (suc n) = refl
front_smaller all place (c ∷ e ∷ cs) (suc n) = ap (λ (rest : List (List ℤ)). not_above all place c ∷ rest) (front_smaller all (place + 1) (e ∷ cs) n)

pub least_next : (F U : List (List ℤ)) (all place : ℕ) (cs before : List Component) (n : ℕ) → length cs ≡ n + 2 → before ≡ take (n + 1) cs
    → without_last (F ++ (U ++ smaller_from all place before)) ++ drop n (smaller_from all place cs) ≡ F ++ (U ++ smaller_from all place cs)
least_next F U all place cs before n long is =
    let B = smaller_from all place before in
    let S = smaller_from all place cs in
    let size : length (smaller_from all place before) ≡ n + 1 = length-smaller_from all place before ∙ ap length is ∙ simp length-take (omega (arith, long)) in
    let more : n + 1 ≡ suc n = omega arith in
    let same = ap (λ (ds : List Component). take n (smaller_from all place ds)) (is ∙ ap (λ (k : ℕ). take k cs) more) ∙ front_smaller all place cs n in
    ap (λ (xs : List (List ℤ)). without_last xs ++ drop n S) (sym (append_assoc F U B))
    ∙ ap (λ (k : ℕ). take k ((F ++ U) ++ B) ++ drop n S) (simp length-append (omega (arith, size)))
    ∙ ap (λ (xs : List (List ℤ)). xs ++ drop n S) (take-append-add (F ++ U) B n ∙ ap (λ (xs : List (List ℤ)). (F ++ U) ++ xs) same)
    ∙ append_assoc (F ++ U) (take n S) (drop n S)
    ∙ ap (λ (xs : List (List ℤ)). (F ++ U) ++ xs) (take-append-drop n S)
    ∙ append_assoc F U S

module _ (P : Problem) (L : LeafCase) (cs front : List Component) (r i : ℕ) (is : r ≡ length P.rows + length cs + i) (h : i + 1 < length cs) (split : front ≡ take (i + 2) cs) where
  abbrev before : List Component
  before = take (i + 1) cs

  abbrev pub goal : List (List ℤ)
  goal = smaller_from (L.scope + P.unknowns) L.scope front

  own_now : slice_index_or (leaf_premises P L (Some cs)) r nothing ≡ least_premises P L before
  own_now = own_least P L cs r i before is (omega (arith, h)) refl

  own_next : slice_index_or (leaf_premises P L (Some cs)) (r + 1) nothing ≡ least_premises P L front
  own_next = own_least P L cs (r + 1) (i + 1) front (omega (arith, is)) h (split ∙ ap (λ (k : ℕ). take k cs) (omega arith))

  size : length front ≡ i + 2
  size = ap length split ∙ simp length-take (omega (arith, h))

  pub next_forms : (F old : List (List ℤ)) → old ≡ F ++ (slice_index_or (leaf_premises P L (Some cs)) r nothing).known
      → without_last old ++ drop i goal ≡ F ++ (slice_index_or (leaf_premises P L (Some cs)) (r + 1) nothing).known
  next_forms F old e =
      ap (λ (xs : List (List ℤ)). without_last xs ++ drop i goal) (e ∙ ap (λ (s : Premises). F ++ s.known) own_now)
      ∙ least_next F (unknown_forms P L) (L.scope + P.unknowns) L.scope front before i size
      (sym (ap (take (i + 1)) split ∙ take-take (i + 1) (i + 2) cs (omega arith)))
      ∙ sym (ap (λ (s : Premises). F ++ s.known) own_next)

  pub next_listed : (slice_index_or (leaf_premises P L (Some cs)) (r + 1) nothing).listed ≡ constant (slice_index_or goal (length goal - 1) []) ∷ []
  next_listed = ap (λ (s : Premises). s.listed) own_next
