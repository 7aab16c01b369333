-- A tree in scope that doesn't use a new parameter can lose its coefficient, and a simplified tree is in scope.
use Rattle.std.proofs.Common.{◌≡◌, ◌<◌, ◌+◌, ℕ, ℤ, pos, arith, true, List, [], ◌∷◌, length, eqb-true}
use Rattle.std.proofs.lemmas.List.Elements.{All-nil, All-cons}
use Rattle.std.specs.Prelude.{All, IsTrue, nat_le, int_le}
use Rattle.std.specs.List.{list_all}
use Rattle.pip_model.specs.Limits.{most_components}
use Rattle.pip_model.specs.Numbers.{is_zero, gcd, gcd_of, same_number}
use Rattle.pip_model.specs.Forms.{width, entry}
use Rattle.pip_model.specs.Tree.{Tree, Bottom, Leaf, If, NewParm, Component, is_form, is_component, is_scoped}
use Rattle.pip_model.specs.Simplified.{is_unused, simplified}
use Rattle.pip_model.proofs.Tests.{both, three, is_zero_is}
use Rattle.pip_model.proofs.Simplest.{simplified-scoped, simplified-well_formed}
use Rattle.run_laws.proofs.FitRun.{simplified_fits}
use Rattle.quast.specs.Components.{LacksPlace}
use Rattle.quast.specs.Trees.{ScopedTree, IsQuast}
use Rattle.quast_simplify.specs.Components.{TreeLacksPlace}

wide : (w q : ℕ) (v : List ℤ) → q < w → is_form w v ≡ true → q < width v
wide w q v h e = omega (arith, eqb-true (length v) (w + 1) e)

component-lacks : (w q : ℕ) (c : Component) → q < w → is_zero (entry c.form q) ≡ true → is_component w c ≡ true → LacksPlace q c
component-lacks w q c h z e = record {
  within = wide w q c.form h (three (int_le (pos 1) c.den) (is_form w c.form) (same_number (gcd c.den (gcd_of c.form)) (pos 1)) e).1;
  zero = is_zero_is (entry c.form q) z;
}

components-lack : (w q : ℕ) (cs : List Component) → q < w → list_all (λ (c : Component). is_zero (entry c.form q)) cs ≡ true → list_all (is_component w) cs ≡ true → All (LacksPlace q) cs
components-lack w q [] h z e = All-nil (LacksPlace q)
components-lack w q (c ∷ cs) h z e =
    let zs = both (is_zero (entry c.form q)) (list_all (λ (c : Component). is_zero (entry c.form q)) cs) z in
    let es = both (is_component w c) (list_all (is_component w) cs) e in
    All-cons (LacksPlace q) c cs (component-lacks w q c h zs.0 es.0) (components-lack w q cs h zs.1 es.1)

pub tree-lacks : (w q : ℕ) (t : Tree) → q < w → is_unused q t ≡ true → is_scoped w t ≡ true → TreeLacksPlace q t
tree-lacks w q Bottom h z e = tt
tree-lacks w q (Leaf cs) h z e =
    components-lack w q cs h z (three (nat_le 1 (length cs)) (nat_le (length cs) most_components) (list_all (is_component w) cs) e).2
tree-lacks w q (If v a b) h z e =
    let zs = three (is_zero (entry v q)) (is_unused q a) (is_unused q b) z in
    let es = three (is_form w v) (is_scoped w a) (is_scoped w b) e in
    (wide w q v h es.0, tree-lacks w q a h zs.1 es.1, tree-lacks w q b h zs.2 es.2)
tree-lacks w q (NewParm v d a) h z e =
    let zs = both (is_zero (entry v q)) (is_unused q a) z in
    let es = three (is_form w v) (int_le (pos 1) d) (is_scoped (w + 1) a) e in
    (wide w q v h es.0, tree-lacks (w + 1) q a (omega arith) zs.1 es.2)

-- what stands below a new parameter is over one more place than its form, before it is simplified and after
pub scoped-below : (w : ℕ) (v : List ℤ) (d : ℤ) (a t : Tree) → NewParm v d a ≡ t → IsTrue (is_scoped w t) → IsTrue (is_scoped (width v + 1) (simplified a))
scoped-below w v d a t is h =
    let es = three (is_form w v) (int_le (pos 1) d) (is_scoped (w + 1) a) (rw (← is) at h) in
    let same : width v + 1 ≡ w + 1 = omega (arith, eqb-true (length v) (w + 1) es.0) in
    rw same (simplified-scoped (w + 1) a es.2)

-- the simplified tree is one that is built
pub simplified-quast : (q : ScopedTree) → IsQuast q → IsQuast (record { width = q.width; tree = simplified q.tree })
simplified-quast q h = record {
  well_formed = simplified-well_formed q.width q.tree h.well_formed;
  fits = simplified_fits q.tree h.fits;
}
