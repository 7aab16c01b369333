-- What each refutation of a leaf starts from beside the leaf's forms.
use Rattle.leaf_check.proofs.Words.{◌≡◌, refl, ap, sym, ◌∙◌, ℕ, zero, suc, ◌+◌, ◌-◌, ◌<◌, pos, List, [], ◌∷◌, ◌++◌, length, take, map, get_or, append_assoc, arith, eqb-true, Bool, true, false, ◌&&◌, Err, slice_index_or, Option, Some, None, ◌==◌, length-map, length-append, get_or-append_right, get_or-map, same_number, Problem, Component, ◌>>◌, LeafProofs, spot, Rejected, Checks, holds, check_leaf, Premises, LeafCase, leaf_premises, row_premises, sign_premises, least_premises, fronts_from, is_whole_list, nothing, goal_count, has_shape, list_all}
use Rattle.std.proofs.Common.{IsTrue, ℤ}
use Rattle.std.proofs.lemmas.List.{get_or_append_left}
use Rattle.pip_model.proofs.Tests.{both}

pub length-fronts : (front cs : List Component) → length (fronts_from front cs) ≡ length cs
length-fronts front [] = refl
length-fronts front (c ∷ cs) = ap suc (length-fronts (front ++ c ∷ []) cs)

pub front_at : (front cs : List Component) (k : ℕ) (d : List Component) → k < length cs → slice_index_or (fronts_from front cs) k d ≡ front ++ take (suc k) cs
front_at front [] k d h = absurd (omega arith)
front_at front (c ∷ cs) zero d h = refl
front_at front (c ∷ cs) (suc k) d h = front_at (front ++ c ∷ []) cs k d (omega arith) ∙ append_assoc front (c ∷ []) (take (suc k) cs)

module _ (P : Problem) (L : LeafCase) (cs : List Component) where
  abbrev pub rows : List Premises
  rows = map (row_premises P L cs) P.rows

  abbrev pub signs : List Premises
  signs = map (sign_premises P L) cs

  abbrev pub lasts : List Premises
  lasts = map (least_premises P L) (fronts_from [] cs)

  pub length-rows : length rows ≡ length P.rows
  length-rows = length-map P.rows (row_premises P L cs)

  length-signs : length signs ≡ length cs
  length-signs = length-map cs (sign_premises P L)

  pub length-both : length (rows ++ signs) ≡ length P.rows + length cs
  length-both = length-append rows signs ∙ (let e = length-rows in let f = length-signs in omega arith)

  pub length-own : length (leaf_premises P L (Some cs)) ≡ length P.rows + length cs + length cs
  length-own =
      let e : length (rows ++ signs ++ lasts) ≡ length (rows ++ signs) + length lasts = length-append (rows ++ signs) lasts in
      let f : length lasts ≡ length cs = length-map (fronts_from [] cs) (least_premises P L) ∙ length-fronts [] cs in
      let g = length-both in
      omega arith

  pub own_row : (r : ℕ) (row : List ℤ) → r < length P.rows → row ≡ get_or P.rows r row → slice_index_or (leaf_premises P L (Some cs)) r nothing ≡ row_premises P L cs row
  own_row r row h e =
      let one = length-rows in
      let two = length-both in
      get_or_append_left (rows ++ signs) lasts nothing r (omega arith)
      ∙ get_or_append_left rows signs nothing r (omega arith)
      ∙ get_or-map (row_premises P L cs) P.rows r row nothing h
      ∙ ap (row_premises P L cs) (sym e)

  pub own_sign : (r k : ℕ) (c : Component) → r ≡ length P.rows + k → k < length cs → c ≡ get_or cs k c → slice_index_or (leaf_premises P L (Some cs)) r nothing ≡ sign_premises P L c
  own_sign r k c is h e =
      let two = length-both in
      let at : r - length P.rows ≡ k = omega arith in
      get_or_append_left (rows ++ signs) lasts nothing r (omega arith)
      ∙ get_or-append_right rows signs (length P.rows) r nothing length-rows (omega arith)
      ∙ ap (λ (i : ℕ). get_or signs i nothing) at
      ∙ get_or-map (sign_premises P L) cs k c nothing h
      ∙ ap (sign_premises P L) (sym e)

  pub own_least : (r k : ℕ) (front : List Component) → r ≡ length P.rows + length cs + k → k < length cs → front ≡ take (k + 1) cs → slice_index_or (leaf_premises P L (Some cs)) r nothing ≡ least_premises P L front
  own_least r k front is h e =
      let some = length-both in
      let at : r - (length P.rows + length cs) ≡ k = omega arith in
      let count = length-fronts [] cs in
      let next : k + 1 ≡ suc k = omega arith in
      get_or-append_right (rows ++ signs) lasts (length P.rows + length cs) r nothing some (omega arith)
      ∙ ap (λ (i : ℕ). get_or lasts i nothing) at
      ∙ get_or-map (least_premises P L) (fronts_from [] cs) k [] nothing (omega arith)
      ∙ ap (least_premises P L) (front_at [] cs k [] h ∙ ap (λ (n : ℕ). take n cs) (sym next) ∙ sym e)

pub own_place : (P : Problem) (L : LeafCase) (list : Option (List Component)) (cs : List Component) (r : ℕ) → list ≡ Some cs → r < length (leaf_premises P L list) → r < length P.rows + length cs + length cs
own_place P L list cs r e h =
    let same : length (leaf_premises P L list) ≡ length (leaf_premises P L (Some cs)) = ap (λ (o : Option (List Component)). length (leaf_premises P L o)) e in
    let own = length-own P L cs in
    omega arith

pub whole_count : (n : ℕ) (cs : List Component) → IsTrue (is_whole_list n (Some cs)) → length cs ≡ n
whole_count n cs h = eqb-true (length cs) n (both (length cs == n) (list_all (λ (c : Component). same_number c.den (pos 1)) cs) h).0

-- a leaf has as many goals as it has premises of refutations
pub own_goals : (P : Problem) (L : LeafCase) (list : Option (List Component)) → length (leaf_premises P L list) ≡ goal_count P list
own_goals P L None = refl
own_goals P L (Some cs) = length-own P L cs

-- ---- the shape of a leaf's proofs

module _ (P : Problem) (shares : Bool) (l : ℕ) (L : LeafCase) (p : LeafProofs) where
  shapeless : (b c : Bool) (rest : Checks (Unit {0})) → (b && c) ≡ false → (holds (spot l 0 0) b >> (holds (spot l 0 0) c >> rest)) ≡ Err (Rejected (spot l 0 0))
  shapeless true true rest e = cc
  shapeless _ _ rest e = refl

  shape_same : (is_whole_list P.unknowns L.list && (length p.refutations == length (leaf_premises P L L.list))) ≡ has_shape P L.list p
  shape_same = ap (λ (n : ℕ). is_whole_list P.unknowns L.list && (length p.refutations == n)) (own_goals P L L.list)

  pub without_shape : has_shape P L.list p ≡ false → check_leaf P shares l L p ≡ Err (Rejected (spot l 0 0))
  without_shape e = shapeless (is_whole_list P.unknowns L.list) (length p.refutations == length (leaf_premises P L L.list)) _ (shape_same ∙ e)

  pub shape_count : has_shape P L.list p ≡ true → length p.refutations ≡ length (leaf_premises P L L.list)
  shape_count e = eqb-true (length p.refutations) (length (leaf_premises P L L.list)) (both (is_whole_list P.unknowns L.list) (length p.refutations == length (leaf_premises P L L.list)) (shape_same ∙ e)).1
