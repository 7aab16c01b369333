-- What is known of the trees that are walked, and of their leaves.
use Rattle.quast_walk.proofs.Words.{◌≡◌, ◌∙◌, sym, subst, ℕ, ◌-◌, ◌≤◌, arith, [], IsTrue, Tree, is_scoped, Visit, ScopedTree, IsQuast, IsTreeAt}
use Rattle.walk_laws.proofs.SecondTree.{second-scoped}
use Rattle.quast_walk.proofs.Placing.{spread_tree-none}

-- the second tree where it is walked
pub second_ready : (m w : ℕ) (q : ScopedTree) (t : Tree) → t ≡ q.tree → q.width ≡ m → IsQuast q → m ≤ w → IsTreeAt m (w - m) w t
second_ready m w q t is over quast few =
    let h : Visit = record { places = w; context = []; depth = 0 } in
    let scoped = subst (λ (n : ℕ). IsTrue (is_scoped n q.tree)) over quast.well_formed.scoped in
    record { few = omega (arith, few); scoped = rw is (second-scoped m h q.tree few scoped); numbers = rw is quast.fits }

-- the first tree
pub first_ready : (w : ℕ) (q : ScopedTree) (t : Tree) → t ≡ q.tree → q.width ≡ w → IsQuast q → IsTreeAt w 0 w t
first_ready w q t is over quast = record {
  few = omega arith;
  scoped = subst (λ (u : Tree). IsTrue (is_scoped w u)) (sym (spread_tree-none w t ∙ is)) (subst (λ (n : ℕ). IsTrue (is_scoped n q.tree)) over quast.well_formed.scoped);
  numbers = rw is quast.fits;
}
