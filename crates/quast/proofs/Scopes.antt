-- Trees that are joined are well formed, and so are the parts of a tree.
use Rattle.quast.proofs.Words.{◌≡◌, ◌≤◌, ◌<◌, ◌+◌, ℕ, ℤ, pos, ◌≤ℤ◌, arith, ◌&&◌, List, length, and_from, All, int_le, nat_le, list_all, fits, all_fit, Tree, Leaf, If, NewParm, Component, is_form, is_component, is_scoped, nesting, Fits, IsComponent, ScopedTree, IsQuast}
use Rattle.pip_model.specs.Limits.{most_components, most_nesting}
use Rattle.pip_model.specs.Printed.{tree_fits, component_fits}
use Rattle.quast.proofs.Conditions.{is_form_from, all_fit_from, one_le_from, nat_le_from, list_all_from}

-- the tree over w places
abbrev pub over : ℕ → Tree → ScopedTree
over w t = record { width = w; tree = t }

pub leaf-quast : (w : ℕ) (cs : List Component) → 1 ≤ length cs → length cs ≤ most_components → All (IsComponent w) cs → IsQuast (over w (Leaf cs))
leaf-quast w cs some few all = record {
  well_formed = record {
    scoped = and_from (nat_le 1 (length cs) && nat_le (length cs) most_components) (list_all (is_component w) cs)
        (and_from (nat_le 1 (length cs)) (nat_le (length cs) most_components) (nat_le_from 1 (length cs) some) (nat_le_from (length cs) most_components few))
        (list_all_from (IsComponent w) (is_component w) cs (λ c h. h.scoped) all);
    nested = omega arith;
  };
  fits = list_all_from (IsComponent w) component_fits cs (λ c h. h.fits) all;
}

pub if-quast : (w : ℕ) (v : List ℤ) (a b : Tree) → length v ≡ w + 1 → All Fits v → IsQuast (over w a) → IsQuast (over w b) → nesting a < most_nesting → nesting b < most_nesting → IsQuast (over w (If v a b))
if-quast w v a b wide fit p q h k = record {
  well_formed = record {
    scoped = and_from (is_form w v && is_scoped w a) (is_scoped w b) (and_from (is_form w v) (is_scoped w a) (is_form_from w v wide) p.well_formed.scoped) q.well_formed.scoped;
    nested = omega arith;
  };
  fits = and_from (all_fit v && tree_fits a) (tree_fits b) (and_from (all_fit v) (tree_fits a) (all_fit_from v fit) p.fits) q.fits;
}

pub newparm-quast : (w : ℕ) (v : List ℤ) (d : ℤ) (a : Tree) → length v ≡ w + 1 → All Fits v → pos 1 ≤ℤ d → Fits d → IsQuast (over (w + 1) a) → nesting a < most_nesting → IsQuast (over w (NewParm v d a))
newparm-quast w v d a wide fit some fit_d p h = record {
  well_formed = record {
    scoped = and_from (is_form w v && int_le (pos 1) d) (is_scoped (w + 1) a) (and_from (is_form w v) (int_le (pos 1) d) (is_form_from w v wide) (one_le_from d some)) p.well_formed.scoped;
    nested = omega arith;
  };
  fits = and_from (all_fit v && fits d) (tree_fits a) (and_from (all_fit v) (fits d) (all_fit_from v fit) fit_d) p.fits;
}
