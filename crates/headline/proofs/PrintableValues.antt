-- The value of an answer that is read can be printed as an answer over no parameters.
use Rattle.headline.proofs.Words.{◌≡◌, subst, refl, arith, ℕ, ◌+◌, ◌≤◌, ℤ, pos, ◌*ℤ◌, ◌+ℤ◌, ◌<ℤ◌, true, Option, Some, None, List, [], ◌∷◌, ◌++◌, IfSome, int_le, nat_le, map, flat_map, if◌then◌else◌, AllByRecursion, list_all, most_components, all_fit, dot_listed, value_listed, fits, is_nonneg, floor_div, gcd, gcd_of, same_number, dot, value, Tree, Bottom, Leaf, If, NewParm, Component, reduced, component_value, Ratio, Answer, Void, Solved, tree_value, is_scoped, is_component, is_form, value_tree, tree_value_listed, answer_at, answer_at_listed, IsCommentedAnswer, IsPrintableAnswer, component_fits, tree_fits, fit_head, fit_parts, fits-floor, var, num, ◌⊕◌, ring, both, three, both_true, all_three, all_passed, one_at_least, one_le, same_number_yes, component-is, leb-true, le-leb, cases_Bool, inl, inr}
use Rattle.std.proofs.lemmas.List.{length-map}
use Rattle.std.specs.Prelude.{length}

-- ---- the last partial sum of a value is the value

last-fits : (sum : ℤ) (c w : List ℤ) → fits sum ≡ true → all_fit (dot_listed sum c w) ≡ true → fits (sum +ℤ dot c w) ≡ true
last-fits sum (c ∷ cs) (x ∷ w) h k =
    let now = sum +ℤ c *ℤ x in
    let behind = fit_head now (dot_listed now cs w) (fit_head (c *ℤ x) (now ∷ dot_listed now cs w) k).1 in
    subst (λ z. fits z ≡ true) (ring (sum ∷ (c *ℤ x) ∷ dot cs w ∷ []) (var 0 ⊕ var 1 ⊕ var 2) (var 0 ⊕ (var 1 ⊕ var 2)) refl) (last-fits now cs w behind.0 behind.1)
last-fits sum _ _ h k = subst (λ z. fits z ≡ true) (ring (sum ∷ []) (var 0) (var 0 ⊕ num (pos 0)) refl) h

value-fits : (c u : List ℤ) → all_fit (value_listed c u) ≡ true → fits (value c u) ≡ true
value-fits c u h = subst (λ z. fits z ≡ true) (ring (value c u ∷ []) (num (pos 0) ⊕ var 0) (var 0) refl) (last-fits (pos 0) c (u ++ pos 1 ∷ []) refl h)

-- ---- ratios that can be printed

record IsGood (f : Ratio) : Type 0 where
  positive : pos 0 <ℤ f.den
  den : fits f.den ≡ true
  num : fits f.num ≡ true

record IsGoodPoint (fs : List Ratio) : Type 0 where
  some : 1 ≤ length fs
  few : length fs ≤ most_components
  each : AllByRecursion IsGood fs

components-good : (w : ℕ) (cs : List Component) (u : List ℤ) → AllByRecursion (λ c. is_component w c ≡ true) cs → list_all component_fits cs ≡ true → all_fit (flat_map (λ (c : Component). value_listed c.form u) cs) ≡ true → AllByRecursion IsGood (map (component_value u) cs)
components-good w [] u h k l = tt
components-good w (c ∷ cs) u h k l =
    let here = three (int_le (pos 1) c.den) (is_form w c.form) (same_number (gcd c.den (gcd_of c.form)) (pos 1)) h.0 in
    let numbers = both (component_fits c) (list_all component_fits cs) k in
    let listed = fit_parts (value_listed c.form u) (flat_map (λ (x : Component). value_listed x.form u) cs) l in (
      record { positive = one_at_least c.den here.0; den = (both (fits c.den) (all_fit c.form) numbers.0).0; num = value-fits c.form u listed.0 },
      components-good w cs u h.1 numbers.1 listed.1,
    )

value-good : (w : ℕ) (t : Tree) (u : List ℤ) → is_scoped w t ≡ true → tree_fits t ≡ true → all_fit (tree_value_listed t u) ≡ true → IfSome (tree_value t u) IsGoodPoint
value-good w Bottom u h k l = tt
value-good w (Leaf cs) u h k l =
    let parts = three (nat_le 1 (length cs)) (nat_le (length cs) most_components) (list_all (is_component w) cs) h in
    let same = length-map cs (component_value u) in
    record {
      some = omega (arith, same, leb-true 1 (length cs) parts.0);
      few = omega (arith, same, leb-true (length cs) most_components parts.1);
      each = components-good w cs u (all_passed (is_component w) cs parts.2) k l;
    }
value-good w (If v a b) u h k l =
    let parts = three (is_form w v) (is_scoped w a) (is_scoped w b) h in
    let numbers = three (all_fit v) (tree_fits a) (tree_fits b) k in
    let listed = (fit_parts (value_listed v u) (if is_nonneg (value v u) then tree_value_listed a u else tree_value_listed b u) l).1 in
    elim (cases_Bool (is_nonneg (value v u))) [
      | inl e ↦ rw e (value-good w a u parts.1 numbers.1 (rw e at listed))
      | inr e ↦ rw e (value-good w b u parts.2 numbers.2 (rw e at listed))
    ]
value-good w (NewParm v d a) u h k l =
    value-good (w + 1) a (u ++ floor_div (value v u) d ∷ []) (three (is_form w v) (int_le (pos 1) d) (is_scoped (w + 1) a) h).2 (three (all_fit v) (fits d) (tree_fits a) k).2
    (fit_parts (value_listed v u) (tree_value_listed a (u ++ floor_div (value v u) d ∷ [])) l).1

-- ---- the tree of a value

abbrev one : Ratio → Component
one f = reduced f.den (f.num ∷ [])

one-scoped : (f : Ratio) → IsGood f → is_component 0 (one f) ≡ true
one-scoped f h =
    let is = component-is (record { den = f.den; coefs = []; constant = f.num ∷ [] }) h.positive in
    all_three (int_le (pos 1) (one f).den) (is_form 0 (one f).form) (same_number (gcd (one f).den (gcd_of (one f).form)) (pos 1)) (one_le (one f).den is.positive) refl (same_number_yes _ _ is.lowest)

one-fits : (f : Ratio) → IsGood f → component_fits (one f) ≡ true
one-fits f h = both_true (fits (one f).den) (all_fit (one f).form) (fits-floor f.den _ h.den) (both_true (fits (floor_div f.num _)) true (fits-floor f.num _ h.num) refl)

ones-scoped : (fs : List Ratio) → AllByRecursion IsGood fs → list_all (is_component 0) (map one fs) ≡ true
ones-scoped [] h = refl
ones-scoped (f ∷ fs) h = both_true (is_component 0 (one f)) (list_all (is_component 0) (map one fs)) (one-scoped f h.0) (ones-scoped fs h.1)

ones-fit : (fs : List Ratio) → AllByRecursion IsGood fs → list_all component_fits (map one fs) ≡ true
ones-fit [] h = refl
ones-fit (f ∷ fs) h = both_true (component_fits (one f)) (list_all component_fits (map one fs)) (one-fits f h.0) (ones-fit fs h.1)

tree-printable : (o : Option (List Ratio)) → IfSome o IsGoodPoint → IsPrintableAnswer 0 (Solved (value_tree o))
tree-printable None h = record { well_formed = record { scoped = refl; nested = omega arith }; numbers = refl; scope = omega arith }
tree-printable (Some fs) h =
    let same = length-map fs one in
    record {
      well_formed = record {
        scoped = all_three (nat_le 1 (length (map one fs))) (nat_le (length (map one fs)) most_components) (list_all (is_component 0) (map one fs))
            (le-leb 1 (length (map one fs)) (omega (arith, same, h.some))) (le-leb (length (map one fs)) most_components (omega (arith, same, h.few))) (ones-scoped fs h.each);
        nested = omega arith;
      };
      numbers = ones-fit fs h.each;
      scope = omega arith;
    }

pub answer-printable : (w : ℕ) (a : Answer) (u : List ℤ) → IsCommentedAnswer w a → all_fit (answer_at_listed a u) ≡ true → IsPrintableAnswer 0 (answer_at a u)
answer-printable w Void u h l = tt
answer-printable w (Solved t) u h l = tree-printable (tree_value t u) (value-good w t u h.0.scoped h.1 l)
