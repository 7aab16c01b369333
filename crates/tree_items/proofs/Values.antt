-- The value of a tree, from the place where its vector leads.
use Rattle.tree_items.proofs.Words.{◌≡◌, refl, sym, ap, ◌∙◌, ℕ, ◌+◌, ◌<◌, suc, ℤ, pos, List, [], ◌∷◌, ◌++◌, length, get_or, drop, map, Option, Some, None, true, add-one, drop-cons, append_assoc, Ok, all_fit, Tree, Bottom, Leaf, Component, reduced, Ratio, component_value, leaf_of, leaf_point, tree_value, ratios_of, tree_valued}
use Rattle.pip_model.specs.Forms.{value}
use Rattle.pip_model.specs.Values.{tree_value_listed, value_tree}
use Rattle.pip_model.proofs.Values.{tree_value-leaf}
use Rattle.quast.specs.Places.{landed}

-- one ratio more
pub ratios_more : (made cs : List Component) (ns : List ℤ) (i : ℕ) (c : Component) (n : ℤ) → i < length cs → i < length ns → c ≡ get_or cs i c → n ≡ get_or ns i (pos 0) → made ++ ratios_of (drop i cs) (drop i ns) ≡ ratios_of cs ns
    → (made ++ reduced c.den (n ∷ []) ∷ []) ++ ratios_of (drop (i + 1) cs) (drop (i + 1) ns) ≡ ratios_of cs ns
ratios_more made cs ns i c n h k is number e =
    let first : drop i cs ≡ c ∷ drop (i + 1) cs = rw (add-one, drop-cons cs i c) (ap (λ (x : Component). x ∷ drop (suc i) cs) (sym is)) in
    let second : drop i ns ≡ n ∷ drop (i + 1) ns = rw (add-one, drop-cons ns i (pos 0)) (ap (λ (x : ℤ). x ∷ drop (suc i) ns) (sym number)) in
    append_assoc made (reduced c.den (n ∷ []) ∷ []) (ratios_of (drop (i + 1) cs) (drop (i + 1) ns)) ∙ rw (first, second) at e

ratios_of-values : (u : List ℤ) (cs : List Component) → map (λ (f : Ratio). reduced f.den (f.num ∷ [])) (map (component_value u) cs) ≡ ratios_of cs (map (λ (c : Component). value c.form u) cs)
ratios_of-values u [] = refl
ratios_of-values u (c ∷ cs) = ap (λ (rest : List Component). reduced c.den (value c.form u ∷ []) ∷ rest) (ratios_of-values u cs)

-- the tree of where a vector leads
abbrev landed_tree : Option (List Component × List ℤ) → Tree
landed_tree None = Bottom
landed_tree (Some l) = Leaf (ratios_of l.0 l.1)

value_tree-landed : (o : Option (List Component × List ℤ)) → value_tree (leaf_point o) ≡ landed_tree (landed o)
value_tree-landed None = refl
value_tree-landed (Some l) = ap Leaf (ratios_of-values l.1 l.0)

pub tree_valued_landed : (t : Tree) (u : List ℤ) (o : Option (List Component × List ℤ)) → all_fit (tree_value_listed t u) ≡ true → o ≡ landed (leaf_of t u) → tree_valued t u ≡ Ok (landed_tree o)
tree_valued_landed t u o fit at =
    let same : value_tree (tree_value t u) ≡ landed_tree o = ap value_tree (tree_value-leaf t u) ∙ value_tree-landed (leaf_of t u) ∙ ap landed_tree (sym at) in
    rw fit (ap Ok same)
