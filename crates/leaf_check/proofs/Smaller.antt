-- The goals of a list's refutations.
use Rattle.leaf_check.proofs.Words.{◌≡◌, refl, ap, sym, ◌∙◌, ℕ, zero, suc, ◌+◌, ◌-◌, ◌<◌, ◌≤◌, ℤ, pos, negsuc, ◌+ℤ◌, Bool, true, List, [], ◌∷◌, ◌++◌, length, drop, get_or, append_assoc, arith, Ok, Err, Result, IsTrue, IsFalse, slice_index_or, IfOk, drop_more, drop_all, entry, plus, unit_form, widen_to, all_fit, Component, plus_term, plus_term_listed, put_in, put_in_listed, not_above, smaller_from, IsChecked, fit_behind, fit_never, length-add, length-plus, length-widened}
use Rattle.std.specs.Prelude.{slice_set}
use Rattle.pip_model.proofs.Forms.{entry-widened}
use Rattle.affine_forms.proofs.Units.{add_unit}
use Rattle.leaf_check.proofs.Making.{length-unit}

-- ---- a row at the components

module _ (now : List ℤ) (row : List ℤ) (cs : List Component) (i : ℕ) (d : Component) where
  abbrev a : ℤ
  a = get_or row i (pos 0)

  abbrev f : List ℤ
  f = (get_or cs i d).form

  pub put_refused : (first : List ℤ) → i < length row → i < length cs → all_fit (put_in_listed now (drop i row) (drop i cs)) ≡ all_fit (put_in_listed first row cs)
      → IsFalse (all_fit (plus_term_listed now a f)) → IsFalse (all_fit (put_in_listed first row cs))
  put_refused first h k e fit =
      sym e
      ∙ rw (drop_more row i (pos 0) h, drop_more cs i d k)
      (fit_never (plus_term_listed now a f) (put_in_listed (plus_term now a f) (drop (i + 1) row) (drop (i + 1) cs)) fit)

no_components : (sum row : List ℤ) → put_in sum row [] ≡ sum
no_components sum [] = refl
no_components sum (a ∷ row) = refl

no_numbers : (sum row : List ℤ) → put_in_listed sum row [] ≡ []
no_numbers sum [] = refl
no_numbers sum (a ∷ row) = refl

pub put_end : (sum row : List ℤ) (cs : List Component) (i : ℕ) → length cs ≤ i → put_in sum (drop i row) (drop i cs) ≡ sum
put_end sum row cs i h = ap (put_in sum (drop i row)) (drop_all i cs h) ∙ no_components sum (drop i row)

pub put_listed_end : (sum first row : List ℤ) (cs : List Component) (i : ℕ) → length cs ≤ i → all_fit (put_in_listed sum (drop i row) (drop i cs)) ≡ all_fit (put_in_listed first row cs) → IsTrue (all_fit (put_in_listed first row cs))
put_listed_end sum first row cs i h e =
    sym e ∙ ap all_fit (ap (put_in_listed sum (drop i row)) (drop_all i cs h) ∙ no_numbers sum (drop i row))

-- ---- a smaller point

pub not_above_set : (w q : ℕ) (c : Component) → q < w → length c.form ≤ q + 1 → slice_set (widen_to w c.form) q (negsuc 0) ≡ not_above w q c
not_above_set w q c h k =
    let long : length (widen_to w c.form) ≡ w + 1 = length-widened w c.form (omega arith) in
    let none : entry (widen_to w c.form) q ≡ pos 0 = entry-widened w c.form (omega arith) q h (λ inside. absurd (omega (arith, inside, k))) in
    let one : entry (widen_to w c.form) q +ℤ negsuc 0 ≡ negsuc 0 = rw none refl in
    ap (λ (z : ℤ). slice_set (widen_to w c.form) q z) (sym one) ∙ sym (add_unit (widen_to w c.form) w q (negsuc 0) long (omega arith))

pub length-not_above : (w q : ℕ) (c : Component) → q < w → length c.form ≤ q + 1 → length (not_above w q c) ≡ w + 1
length-not_above w q c h k =
    let wide : length (widen_to w c.form) ≡ w + 1 = length-widened w c.form (omega arith) in
    length-add (widen_to w c.form) (unit_form w q (negsuc 0)) (wide ∙ sym (length-unit w q (negsuc 0) h)) ∙ wide

pub length-smaller : (w q : ℕ) (c : Component) → q < w → length c.form ≤ q + 1 → length (plus (not_above w q c) (negsuc 0)) ≡ w + 1
length-smaller w q c h k = let e = length-not_above w q c h k in length-plus (not_above w q c) (negsuc 0) (omega arith) ∙ e

pub length-smaller_from : (all place : ℕ) (cs : List Component) → length (smaller_from all place cs) ≡ length cs
length-smaller_from all place (c ∷ e ∷ cs) = ap suc (length-smaller_from all (place + 1) (e ∷ cs))
length-smaller_from all place _ = refl

-- the goal's forms from one on, which is the last or not
smaller_more : (all place : ℕ) (cs : List Component) (i : ℕ) (d : Component) → i + 1 < length cs → drop i (smaller_from all place cs) ≡ not_above all (place + i) (get_or cs i d) ∷ drop (i + 1) (smaller_from all place cs)
smaller_more all place [] i d h = absurd (omega arith)
smaller_more all place (c ∷ []) i d h = absurd (omega arith)
smaller_more all place (c ∷ e ∷ cs) zero d h = let here : place + 0 ≡ place = omega arith in rw here refl
smaller_more all place (c ∷ e ∷ cs) (suc i) d h =
    let next : suc i + 1 ≡ suc (i + 1) = omega arith in
    let at : place + suc i ≡ place + 1 + i = omega arith in
    rw (next, at) (smaller_more all (place + 1) (e ∷ cs) i d (omega arith))

smaller_last : (all place : ℕ) (cs : List Component) (i : ℕ) (d : Component) → length cs ≡ i + 1 → drop i (smaller_from all place cs) ≡ plus (not_above all (place + i) (get_or cs i d)) (negsuc 0) ∷ []
smaller_last all place (c ∷ []) zero d h = let here : place + 0 ≡ place = omega arith in rw here refl
smaller_last all place (c ∷ e ∷ cs) (suc i) d h = let at : place + suc i ≡ place + 1 + i = omega arith in rw at (smaller_last all (place + 1) (e ∷ cs) i d (omega arith))
smaller_last all place _ _ d h = absurd (omega arith)

module _ (all place : ℕ) (cs : List Component) (i : ℕ) (d : Component) where
  pub last_smaller : length cs ≡ i + 1 → (e : List ℤ) → slice_index_or (smaller_from all place cs) (length (smaller_from all place cs) - 1) e ≡ plus (not_above all (place + i) (get_or cs i d)) (negsuc 0)
  last_smaller long e =
      let last : length (smaller_from all place cs) - 1 ≡ i = omega (arith, length-smaller_from all place cs) in
      let parts = drop_more (smaller_from all place cs) i e (omega (arith, length-smaller_from all place cs)) in
      let is = smaller_last all place cs i d long in
      rw last (cc)

  pub smaller_step : (mid now whole : List (List ℤ)) (form : List ℤ) → i + 1 < length cs → mid ++ drop i (smaller_from all place cs) ≡ whole
      → now ≡ mid ++ form ∷ [] → form ≡ not_above all (place + i) (get_or cs i d) → now ++ drop (i + 1) (smaller_from all place cs) ≡ whole
  smaller_step mid now whole form h so_far e same = rw (e, same) (append_assoc mid _ _ ∙ ap (λ (xs : List (List ℤ)). mid ++ xs) (sym (smaller_more all place cs i d h)) ∙ so_far)

  pub smaller_end : (mid whole : List (List ℤ)) (form : List ℤ) → length cs ≡ i + 1 → mid ++ drop i (smaller_from all place cs) ≡ whole
      → form ≡ plus (not_above all (place + i) (get_or cs i d)) (negsuc 0) → mid ++ form ∷ [] ≡ whole
  smaller_end mid whole form long so_far same = rw same (ap (λ (xs : List (List ℤ)). mid ++ xs) (sym (smaller_last all place cs i d long)) ∙ so_far)

-- ---- clauses of results

pub if_ok : {X E : Type 0} (P Q : X → Type 0) (r : Result X E) → ((x : X) → P x → Q x) → IfOk r P → IfOk r Q
if_ok P Q (Ok x) f h = f x h
if_ok P Q (Err e) f h = tt

-- numbers that fit stand before the listed ones
pub checked_behind : {X E : Type 0} (is_overflow : E → Bool) (xs ys : List ℤ) (r : Result X E) → all_fit xs ≡ true → IsChecked is_overflow ys r → IsChecked is_overflow (xs ++ ys) r
checked_behind is_overflow xs ys (Ok x) h k = rw (fit_behind xs ys h) k
checked_behind is_overflow xs ys (Err e) h k = λ o. rw (fit_behind xs ys h) (k o)
