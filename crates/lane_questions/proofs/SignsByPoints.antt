-- The sign of a form by two questions: one with its opposite, one with the form.
use Rattle.lane_questions.proofs.Words.{◌≡◌, ◌∙◌, refl, ap, ap₂, sym, subst, ℕ, zero, suc, ◌-◌, ◌^◌, ◌<◌, ◌≤◌, ℤ, pos, ◌-ℤ◌, unsigned_abs, arith, true, false, Option, Some, None, List, [], ◌∷◌, ◌++◌, length, replicate, set-append_seam, ints, map-append, length-map, neg_ℤ, slice_set, is_some, IfSome, width, entry, coefficients, constant, negate, opposite, all_fit, opposite_listed, Work, Outcome, Done, Refused, Refusal, Plus, Minus, Unknown, go_on, give, point, class_below, class_above, class_by_points, form-parts, fit_cons, fits-le, length-opposite, has_point, AreLanes, lanes_of, LaneVertex, IsQuestion}
use Rattle.run_laws.proofs.Scopes.{coefficients-end, constant-end}
use Rattle.affine_forms.proofs.Opposites.{opposite_set}

-- ---- the opposite in lanes

negate_zeros : (k : ℕ) → negate (replicate k (pos 0)) ≡ replicate k (pos 0)
negate_zeros zero = refl
negate_zeros (suc k) = ap (λ (zs : List ℤ). pos 0 ∷ zs) (negate_zeros k)

module _ (c : List ℤ) (some : 1 ≤ length c) where
  abbrev cs : List ℤ
  cs = coefficients c

  abbrev last : ℤ
  last = neg_ℤ (constant c) -ℤ pos 1

  parts : (c ≡ coefficients c ++ constant c ∷ []) × (length (coefficients c) ≡ width c)
  parts = form-parts (width c) c (omega (arith, some))

  opposite_parts : opposite c ≡ negate cs ++ last ∷ []
  opposite_parts =
      sym (opposite_set c (width c) (omega (arith, some)))
      ∙ ap (λ (xs : List ℤ). slice_set (negate xs) (width c) last) parts.0
      ∙ ap (λ (xs : List ℤ). slice_set xs (width c) last) (map-append neg_ℤ cs (constant c ∷ []))
      ∙ ap (λ (k : ℕ). slice_set (negate cs ++ neg_ℤ (constant c) ∷ []) k last) (sym (length-map cs neg_ℤ ∙ parts.1))
      ∙ set-append_seam (negate cs) (neg_ℤ (constant c)) [] last

  same_width : width (opposite c) ≡ width c
  same_width = ap (λ (k : ℕ). k - 1) (length-opposite c some)

  pub opposite_lanes : slice_set (negate (lanes_of c)) 0 last ≡ lanes_of (opposite c)
  opposite_lanes =
      ap (λ (zs : List ℤ). last ∷ zs) (map-append neg_ℤ cs (replicate (7 - width c) (pos 0)) ∙ ap (λ (zs : List ℤ). negate cs ++ zs) (negate_zeros (7 - width c)))
      ∙ ap₂ (λ (z : ℤ) (zs : List ℤ). z ∷ zs ++ replicate (7 - width c) (pos 0))
      (sym (constant-end (negate cs) last) ∙ ap constant (sym opposite_parts))
      (sym (coefficients-end (negate cs) last) ∙ ap coefficients (sym opposite_parts))
      ∙ ap (λ (k : ℕ). constant (opposite c) ∷ coefficients (opposite c) ++ replicate (7 - k) (pos 0)) (sym same_width)

  -- its listed number fits
  pub opposite_fits : unsigned_abs (constant c) < 2 ^ 31 → all_fit (opposite_listed c) ≡ true
  opposite_fits small = fit_cons last [] (fits-le last (pos (2 ^ 31)) (omega (arith, ints, small)) refl) refl

pub opposite_question : (n : ℕ) (K : List (List ℤ)) (c : List ℤ) (all : List (List ℤ)) (one below : List ℤ) (v : LaneVertex) → IsQuestion n K c all one v
    → below ≡ lanes_of (opposite c) → IsQuestion n K (opposite c) all below v
opposite_question n K c all one below v is e = record {
  kept = is.kept;
  narrow = (let some = is.narrow.some in let most = is.narrow.most in let same = length-opposite c is.narrow.some in record { some = omega (arith, some, same); most = omega (arith, most, same) });
  forms = is.forms;
  form = e;
}

pub question_fits : (n : ℕ) (K : List (List ℤ)) (c : List ℤ) (all : List (List ℤ)) (one : List ℤ) (v : LaneVertex) → IsQuestion n K c all one v → AreLanes one → all_fit (opposite_listed c) ≡ true
question_fits n K c all one v is lanes =
    opposite_fits c is.narrow.some (subst (λ (zs : List ℤ). unsigned_abs (entry zs 0) < 2 ^ 31) is.form (lanes.narrow 0))

-- ---- the class by what the questions answer

no_point : (o : Outcome (Option (List ℤ))) (v : Work) → go_on o (λ p. give (is_some p)) ≡ Done false v → o ≡ Done None v
no_point (Done None u) v e = let same : u ≡ v = cc in ap (Done None) same
no_point _ v e = absurd cc

some_point : (o : Outcome (Option (List ℤ))) (v : Work) → go_on o (λ p. give (is_some p)) ≡ Done true v → (p : List ℤ) × (o ≡ Done (Some p) v)
some_point (Done (Some p) u) v e = let same : u ≡ v = cc in (p, ap (Done (Some p)) same)
some_point _ v e = absurd cc

refused_point : (o : Outcome (Option (List ℤ))) (f : Refusal) (v : Work) → go_on o (λ p. give (is_some p)) ≡ Refused f v → o ≡ Refused f v
refused_point (Done p u) f v e = absurd cc
refused_point (Refused g u) f v e = let same : g ≡ f = cc in let at : u ≡ v = cc in rw (same, at) refl

module _ (n : ℕ) (K : List (List ℤ)) (c : List ℤ) (w : Work) (fit : all_fit (opposite_listed c) ≡ true) where
  by_first : class_by_points n K c w ≡ go_on (point n (K ++ opposite c ∷ []) w) (λ below. class_below n K c below)
  by_first = rw fit refl

  pub nowhere_below : (v : Work) → has_point n (K ++ opposite c ∷ []) w ≡ Done false v → class_by_points n K c w ≡ Done Plus v
  nowhere_below v e = by_first ∙ ap (λ o. go_on o (λ below. class_below n K c below)) (no_point (point n (K ++ opposite c ∷ []) w) v e)

  pub refused_below : (v : Work) (o : Option Refusal) → IfSome o (λ f. has_point n (K ++ opposite c ∷ []) w ≡ Refused f v) → IfSome o (λ f. class_by_points n K c w ≡ Refused f v)
  refused_below v None e = e
  refused_below v (Some f) e = by_first ∙ ap (λ o. go_on o (λ below. class_below n K c below)) (refused_point (point n (K ++ opposite c ∷ []) w) f v e)

  module _ (v : Work) (first : has_point n (K ++ opposite c ∷ []) w ≡ Done true v) where
    by_second : class_by_points n K c w ≡ go_on (point n (K ++ c ∷ []) v) (λ above. class_above n K c above)
    by_second = by_first ∙ ap (λ o. go_on o (λ below. class_below n K c below)) (some_point (point n (K ++ opposite c ∷ []) w) v first).1

    pub everywhere_below : (u : Work) → has_point n (K ++ c ∷ []) v ≡ Done false u → class_by_points n K c w ≡ Done Minus u
    everywhere_below u e = by_second ∙ ap (λ o. go_on o (λ above. class_above n K c above)) (no_point (point n (K ++ c ∷ []) v) u e)

    pub of_both_signs : (u : Work) → has_point n (K ++ c ∷ []) v ≡ Done true u → class_by_points n K c w ≡ Done (Unknown c) u
    of_both_signs u e = by_second ∙ ap (λ o. go_on o (λ above. class_above n K c above)) (some_point (point n (K ++ c ∷ []) v) u e).1

    pub refused_above : (u : Work) (o : Option Refusal) → IfSome o (λ f. has_point n (K ++ c ∷ []) v ≡ Refused f u) → IfSome o (λ f. class_by_points n K c w ≡ Refused f u)
    refused_above u None e = e
    refused_above u (Some f) e = by_second ∙ ap (λ o. go_on o (λ above. class_above n K c above)) (refused_point (point n (K ++ c ∷ []) v) f u e)
