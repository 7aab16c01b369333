-- The vectors on the two sides of a form, and those with a floor at a new place.
use Rattle.run_laws.proofs.Words.{◌≡◌, ◌∙◌, ap, sym, subst, ℕ, suc, ◌+◌, arith, List, [], ◌∷◌, ◌++◌, length, length-append, ℤ, pos, ◌+ℤ◌, ◌-ℤ◌, ◌*ℤ◌, neg_ℤ, ◌≤ℤ◌, ◌<ℤ◌, ints, floor_div, value, opposite, Quotient, lower_bound, upper_bound, value-opposite}
use Rattle.run_laws.proofs.Tableaux.{NonNegativeAt}
use Rattle.run_laws.proofs.Floors.{floor_law, floor_nn, floor_only}
use Rattle.run_laws.proofs.Scopes.{affine, value-affine, bounds-at, split_last, nn_front, nn_more, Narrow, AllHold, InScope, narrow_both, narrow_wider, hold_front, hold_both, hold_wider, hold_narrower, more_context, last_holds, length-opposite, length-bounds}

-- ---- an if

pub narrow_with : (w : ℕ) (K : List (List ℤ)) (d : List ℤ) → Narrow w K → length d ≡ suc w → Narrow w (K ++ d ∷ [])
narrow_with w K d n e = narrow_both w K (d ∷ []) n (omega (arith, e), omega (arith, e), tt)

module _ (w : ℕ) (K : List (List ℤ)) (c : List ℤ) (wide : length c ≡ suc w) where
  pub opposite_wide : length (opposite c) ≡ suc w
  opposite_wide = length-opposite c (omega (arith, wide)) ∙ wide

  pub value_is : (u : List ℤ) → length u ≡ w → value c u ≡ affine c u
  value_is u l = value-affine c u (wide ∙ ap suc (sym l))

  opposite_is : (u : List ℤ) → length u ≡ w → affine (opposite c) u ≡ neg_ℤ (value c u) -ℤ pos 1
  opposite_is u l = sym (value-affine (opposite c) u (opposite_wide ∙ ap suc (sym l))) ∙ value-opposite c u (omega (arith, wide, l))

  pub to_this : (u : List ℤ) → InScope w K u → pos 0 ≤ℤ value c u → InScope w (K ++ c ∷ []) u
  to_this u i h = more_context w K c u i (subst (λ (x : ℤ). pos 0 ≤ℤ x) (value_is u i.width) h)

  pub to_other : (u : List ℤ) → InScope w K u → value c u <ℤ pos 0 → InScope w (K ++ opposite c ∷ []) u
  to_other u i h = more_context w K (opposite c) u i (omega (arith, ints, opposite_is u i.width, h))

  pub on_this : (u : List ℤ) → InScope w (K ++ c ∷ []) u → pos 0 ≤ℤ value c u
  on_this u i = subst (λ (x : ℤ). pos 0 ≤ℤ x) (sym (value_is u i.width)) (last_holds w K c u i)

  pub on_other : (u : List ℤ) → InScope w (K ++ opposite c ∷ []) u → value c u <ℤ pos 0
  on_other u i = omega (arith, ints, last_holds w K (opposite c) u i, opposite_is u i.width)

-- ---- a new parameter

-- a vector below the quotient is one of the scope and the floor
pub record WithFloor (w : ℕ) (K : List (List ℤ)) (k : Quotient) (p : List ℤ) : Type 0 where
  pub front : List ℤ
  pub last : ℤ
  pub is : p ≡ front ++ last ∷ []
  pub inside : InScope w K front
  pub low : (k.den *ℤ last) ≤ℤ affine k.form front
  pub high : affine k.form front <ℤ (k.den *ℤ last +ℤ k.den)
  pub floor : floor_div (value k.form front) k.den ≡ last

module _ (w : ℕ) (K : List (List ℤ)) (narrow : Narrow w K) (k : Quotient) (wide : length k.form ≡ suc w) (positive : pos 0 <ℤ k.den) (z : ℕ) (one_more : z ≡ suc w) where
  abbrev bounds : List (List ℤ)
  bounds = lower_bound (w + 1) w k ∷ upper_bound (w + 1) w k ∷ []

  form_is : (u : List ℤ) → length u ≡ w → value k.form u ≡ affine k.form u
  form_is u e = value-affine k.form u (wide ∙ ap suc (sym e))

  pub with_floor : (p : List ℤ) → InScope z (K ++ bounds) p → WithFloor w K k p
  with_floor p inside =
      let parts = split_last p w (omega (arith, inside.width, one_more)) in
      let u = parts.front in
      let x = parts.last in
      let hold : AllHold (K ++ bounds) (u ++ x ∷ []) = subst (AllHold (K ++ bounds)) parts.is inside.hold in
      let split = hold_front K bounds (u ++ x ∷ []) hold in
      let at = bounds-at w k u x (omega (arith, wide)) (omega (arith, wide)) parts.width in
      let same = form_is u parts.width in
      record {
        front = u;
        last = x;
        is = parts.is;
        inside = record { width = parts.width; not_negative = nn_front u (x ∷ []) (subst NonNegativeAt parts.is inside.not_negative); hold = hold_narrower w K u (x ∷ []) parts.width narrow split.0 };
        low = omega (arith, ints, split.1.0, at.0);
        high = omega (arith, ints, split.1.1.0, at.1);
        floor = floor_only (value k.form u) x k.den positive (omega (arith, ints, split.1.0, at.0, same)) (omega (arith, ints, split.1.1.0, at.1, same));
      }

  pub floor_added : (u : List ℤ) → InScope w K u → pos 0 ≤ℤ value k.form u → InScope z (K ++ bounds) (u ++ floor_div (value k.form u) k.den ∷ [])
  floor_added u inside over =
      let total = value k.form u in
      let x = floor_div total k.den in
      let law = floor_law total k.den positive in
      let at = bounds-at w k u x (omega (arith, wide)) (omega (arith, wide)) inside.width in
      let same = form_is u inside.width in
      record {
        width = omega (arith, length-append u (x ∷ []), inside.width, one_more);
        not_negative = nn_more u x inside.not_negative (floor_nn total k.den positive over);
        hold = hold_both K bounds (u ++ x ∷ []) (hold_wider w K u (x ∷ []) inside.width narrow inside.hold) (omega (arith, ints, law.0, at.0, same), (omega (arith, ints, law.1, at.1, same), tt));
      }

  pub narrow_below : Narrow z (K ++ bounds)
  narrow_below =
      let widths = length-bounds (w + 1) w k (omega (arith, wide)) (omega (arith, wide)) (omega arith) in
      subst (λ (m : ℕ). Narrow m (K ++ bounds)) (sym one_more) (narrow_both (suc w) K bounds (narrow_wider w K narrow) (omega (arith, widths.0), omega (arith, widths.0), (omega (arith, widths.1), omega (arith, widths.1), tt)))
