-- Lists where they are read over further places.
use Rattle.quast_walk.proofs.Words.{◌≡◌, ◌∙◌, ap, ap₂, sym, subst, refl, ℕ, suc, ◌+◌, ◌-◌, ◌≤◌, arith, true, List, [], ◌∷◌, ◌++◌, length, take, drop, replicate, map, ℤ, pos, IsTrue, drop-append_seam, width, coefficients, constant, widen_to, Leaf, Component, is_component, is_scoped, spread, spread_component, spread_tree, widened_component, widened_components, length_map}
use Rattle.quast_walk.proofs.Placing.{scoped_of, component_wide}
use Rattle.std.specs.List.{list_all}
use Rattle.pip_model.proofs.Division.{form-parts}
use Rattle.pip_model.proofs.Tests.{both}
use Rattle.walk_laws.proofs.Spread.{widened-scoped}
use Rattle.quast_walk.specs.Pairs.{AreMet, AreLists}

-- ---- a list of the first tree

spread_widens : (w z : ℕ) (f : List ℤ) → length f ≡ z + 1 → spread z (w - z) f ≡ widen_to w f
spread_widens w z f e =
    let own : z ≡ width f = omega (arith, e) in
    let l : length f ≡ suc z = omega (arith, e) in
    let parts = form-parts z f l in
    let back : drop z f ≡ constant f ∷ [] = ap (λ (g : List ℤ). drop z g) parts.0 ∙ ap (λ (n : ℕ). drop n (coefficients f ++ constant f ∷ [])) (sym parts.1) ∙ drop-append_seam (coefficients f) (constant f ∷ []) in
    ap (λ (d : List ℤ). take z f ++ replicate (w - z) (pos 0) ++ d) back
    ∙ ap (λ (n : ℕ). take n f ++ replicate (w - n) (pos 0) ++ constant f ∷ []) own

spread_all_widens : (w z : ℕ) (cs : List Component) → list_all (is_component z) cs ≡ true → map (spread_component z (w - z)) cs ≡ widened_components w cs
spread_all_widens w z [] h = refl
spread_all_widens w z (c ∷ cs) h =
    let parts = both (is_component z c) (list_all (is_component z) cs) h in
    ap₂ (λ (f : List ℤ) (ds : List Component). record { den = c.den; form = f } ∷ ds) (spread_widens w z c.form (component_wide z c parts.0)) (spread_all_widens w z cs parts.1)

module _ (w z : ℕ) (cs : List Component) (few : z ≤ w) (scoped : IsTrue (is_scoped z (Leaf cs))) where
  pub first_same : map (spread_component z (w - z)) cs ≡ widened_components w cs
  first_same = spread_all_widens w z cs (scoped_of z cs scoped).each

  pub first_scoped : IsTrue (is_scoped w (spread_tree z (w - z) (Leaf cs)))
  first_scoped = subst (λ (ds : List Component). IsTrue (is_scoped w (Leaf ds))) (sym first_same) (widened-scoped w z cs few scoped)

-- ---- with one of the second

pub lists_met : (m n w : ℕ) (cs ds xs ys : List Component) → AreMet m n w (Leaf cs) (Leaf ds) → xs ≡ widened_components w cs → ys ≡ map (spread_component m n) ds → length cs ≡ length ds → AreLists w xs ys
lists_met m n w cs ds xs ys met first second same = record {
  first = rw first (widened-scoped w (m + n) cs met.few met.first);
  second = rw second met.second;
  lengths = ap (λ (zs : List Component). length zs) first ∙ length_map (widened_component w) cs ∙ same ∙ sym (ap (λ (zs : List Component). length zs) second ∙ length_map (spread_component m n) ds);
}
