-- Lists that are cut, and forms that are read with further places.
use Rattle.quast_walk.proofs.Words.{◌≡◌, ◌∙◌, ap, ap₂, subst, refl, arith, ℕ, ◌+◌, ◌≤◌, true, IsTrue, List, [], ◌∷◌, ◌++◌, length, take, drop, get_or, map, ℤ, pos, All, int_le, eqb-true, append-nil, nat_le, list_all, take-append-drop, gcd, gcd_of, same_number, floor_div, floor_divided, width, Tree, Bottom, Leaf, If, NewParm, Component, reduced, is_form, is_component, is_scoped, spread, spread_component, spread_tree, three, both, same_number_is, IsOwnComponent}
use Rattle.std.proofs.lemmas.Bool.{leb-true}
use Rattle.std.proofs.lemmas.List.Elements.{All-append, All-take, All-drop, All-replicate}
use Rattle.std.proofs.Common.{length-append}
use Rattle.affine_forms.specs.Checks.{Fits}
use Rattle.affine_forms.specs.Forms.{IsForm}
pub use Rattle.pip_model.proofs.Forms.{length-opposite, length-combine}
use Rattle.pip_model.specs.Limits.{most_components}
use Rattle.pip_model.proofs.Gcd.{div_one, floor_divided_one}

pub ruleset length_lemmas = (length-opposite, length-combine)

-- a form with zeros put in
pub spread_form : (m n : ℕ) (xs made : List ℤ) → made ≡ spread m n xs → IsForm xs → IsForm made
spread_form m n xs made is form = rw is (record {
  some = simp length-append (omega (arith, form.some, length-append (take m xs) (drop m xs), ap (λ (ys : List ℤ). length ys) (take-append-drop m xs)));
  fits = All-append Fits _ _ (All-append Fits _ _ (All-take Fits m xs form.fits) (All-replicate Fits n (pos 0) refl)) (All-drop Fits m xs form.fits);
})

-- ---- no place in between

pub spread-none : (m : ℕ) (c : List ℤ) → spread m 0 c ≡ c
spread-none m c = ap (λ (x : List ℤ). x ++ drop m c) (append-nil (take m c)) ∙ take-append-drop m c

spread_component-none : (m : ℕ) (c : Component) → spread_component m 0 c ≡ c
spread_component-none m c = ap (λ (f : List ℤ). record { den = c.den; form = f }) (spread-none m c.form)

pub spread_components-none : (m : ℕ) (cs : List Component) → map (spread_component m 0) cs ≡ cs
spread_components-none m [] = refl
spread_components-none m (c ∷ cs) = ap₂ (λ (x : Component) (xs : List Component). x ∷ xs) (spread_component-none m c) (spread_components-none m cs)

pub spread_tree-none : (m : ℕ) (t : Tree) → spread_tree m 0 t ≡ t
spread_tree-none m Bottom = refl
spread_tree-none m (Leaf cs) = ap Leaf (spread_components-none m cs)
spread_tree-none m (If v a b) = λ i. If (spread-none m v i) (spread_tree-none m a i) (spread_tree-none m b i)
spread_tree-none m (NewParm v d a) = λ i. NewParm (spread-none m v i) d (spread_tree-none m a i)

-- ---- components

abbrev component_of : ℤ → List ℤ → Component
component_of d f = record { den = d; form = f }

-- a component is in lowest terms
pub reduced_is : (w : ℕ) (c : Component) → is_component w c ≡ true → reduced c.den c.form ≡ c
reduced_is w c h =
    let parts = three (int_le (pos 1) c.den) (is_form w c.form) (same_number (gcd c.den (gcd_of c.form)) (pos 1)) h in
    let one = same_number_is (gcd c.den (gcd_of c.form)) (pos 1) parts.2 in
    ap (λ (g : ℤ). component_of (floor_div c.den g) (floor_divided g c.form)) one
    ∙ ap₂ component_of (div_one c.den) (floor_divided_one c.form)

pub component_wide : (w : ℕ) (c : Component) → is_component w c ≡ true → length c.form ≡ w + 1
component_wide w c h = eqb-true (length c.form) (w + 1) (three (int_le (pos 1) c.den) (is_form w c.form) (same_number (gcd c.den (gcd_of c.form)) (pos 1)) h).1

-- of a list over w places
pub record Scoped (w : ℕ) (cs : List Component) : Type 0 where
  pub some : 1 ≤ length cs
  pub few : length cs ≤ most_components
  pub each : list_all (is_component w) cs ≡ true

pub scoped_of : (w : ℕ) (cs : List Component) → is_scoped w (Leaf cs) ≡ true → Scoped w cs
scoped_of w cs h =
    let parts = three (nat_le 1 (length cs)) (nat_le (length cs) most_components) (list_all (is_component w) cs) h in
    record { some = leb-true 1 (length cs) parts.0; few = leb-true (length cs) most_components parts.1; each = parts.2 }

-- what is made in lowest terms was so
pub made_so : {A : Type 0} (f : A → Component) (w : ℕ) (xs : List A) → list_all (is_component w) (map f xs) ≡ true → map (λ x. reduced (f x).den (f x).form) xs ≡ map f xs
made_so f w [] h = refl
made_so f w (x ∷ xs) h =
    let parts = both (is_component w (f x)) (list_all (is_component w) (map f xs)) h in
    ap₂ (λ (y : Component) (ys : List Component). y ∷ ys) (reduced_is w (f x) parts.0) (made_so f w xs parts.1)
