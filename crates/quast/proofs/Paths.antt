-- The listed numbers of a tree's value are those on the path, and those of the list that it leads to.
use Rattle.quast.proofs.Words.{◌≡◌, ◌∙◌, ap, sym, refl, ℤ, Bool, true, false, ◌&&◌, List, [], ◌∷◌, ◌++◌, if◌then◌else◌, list_all-append, fits, is_nonneg, floor_div, value, all_fit, value_listed, Tree, Bottom, Leaf, If, NewParm, leaf_of, path_listed, list_listed}
use Rattle.std.proofs.Math.Bool.{and_assoc, and-false}
use Rattle.pip_model.specs.Values.{tree_value_listed}

-- numbers before both
behind : (xs whole path rest : List ℤ) → all_fit whole ≡ (all_fit path && all_fit rest) → all_fit (xs ++ whole) ≡ (all_fit (xs ++ path) && all_fit rest)
behind xs whole path rest e =
    list_all-append fits xs whole ∙ ap (λ b. all_fit xs && b) e ∙ sym (and_assoc (all_fit xs) (all_fit path) (all_fit rest)) ∙ ap (λ b. b && all_fit rest) (sym (list_all-append fits xs path))

either : (b : Bool) (xs : List ℤ) (s t : Tree) (u : List ℤ) → all_fit (tree_value_listed s u) ≡ (all_fit (path_listed s u) && all_fit (list_listed (leaf_of s u))) → all_fit (tree_value_listed t u) ≡ (all_fit (path_listed t u) && all_fit (list_listed (leaf_of t u)))
    → all_fit (xs ++ (if b then tree_value_listed s u else tree_value_listed t u)) ≡ (all_fit (xs ++ (if b then path_listed s u else path_listed t u)) && all_fit (list_listed (if b then leaf_of s u else leaf_of t u)))
either true xs s t u e f = behind xs _ _ (list_listed (leaf_of s u)) e
either false xs s t u e f = behind xs _ _ (list_listed (leaf_of t u)) f

pub listed-parts : (t : Tree) (u : List ℤ) → all_fit (tree_value_listed t u) ≡ (all_fit (path_listed t u) && all_fit (list_listed (leaf_of t u)))
listed-parts Bottom u = refl
listed-parts (Leaf cs) u = refl
listed-parts (If v a b) u = either (is_nonneg (value v u)) (value_listed v u) a b u (listed-parts a u) (listed-parts b u)
listed-parts (NewParm v d a) u = behind (value_listed v u) _ _ (list_listed (leaf_of a (u ++ floor_div (value v u) d ∷ []))) (listed-parts a (u ++ floor_div (value v u) d ∷ []))

pub path-refused : (t : Tree) (u : List ℤ) → all_fit (path_listed t u) ≡ false → all_fit (tree_value_listed t u) ≡ false
path-refused t u e = listed-parts t u ∙ rw e refl

pub list-refused : (t : Tree) (u : List ℤ) → all_fit (list_listed (leaf_of t u)) ≡ false → all_fit (tree_value_listed t u) ≡ false
list-refused t u e = listed-parts t u ∙ rw e (and-false (all_fit (path_listed t u)))

pub all-listed : (t : Tree) (u : List ℤ) → all_fit (path_listed t u) ≡ true → all_fit (list_listed (leaf_of t u)) ≡ true → all_fit (tree_value_listed t u) ≡ true
all-listed t u e f = listed-parts t u ∙ rw (e, f) refl
