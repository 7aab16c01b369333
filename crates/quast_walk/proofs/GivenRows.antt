-- What is known of rows, of answers over them and of what is made.
use Rattle.quast_walk.proofs.Words.{◌≡◌, subst, arith, ℕ, suc, ◌+◌, List, [], ◌∷◌, length, All, ℤ, Option, Some, None, IfSome, tree_of, IsQuast, node_answer}
use Rattle.pip_model.specs.Contexts.{IsContext}
use Rattle.pip_model.specs.Printed.{IsPrintableAnswer}
use Rattle.pip_model.specs.Tree as model
use Rattle.pip_model.specs.WellFormed.{IsWellFormedAnswer}
use Rattle.quast.specs.declared.node.Node.{Node}

-- rows of one width are a context
narrow_rows : (m : ℕ) (K : List (List ℤ)) → All (λ c. length c ≡ m + 1) K → IsContext m K
narrow_rows m [] h = tt
narrow_rows m (c ∷ K) h = (let e : length c ≡ m + 1 = h 0 c (omega arith) in record { some = omega (arith, e); most = omega (arith, e) }, narrow_rows m K (λ k d l. h (suc k) d (omega (arith, l))))

pub rows_context : (m : ℕ) (xs K : List (List ℤ)) → xs ≡ K → All (λ c. length c ≡ m + 1) xs → IsContext m K
rows_context m xs K is h = narrow_rows m K (subst (λ (ks : List (List ℤ)). All (λ c. length c ≡ m + 1) ks) is h)

-- a node whose answer can be printed makes a tree
pub quast_of : (m : ℕ) (o : Option Node) → IsPrintableAnswer m (node_answer o) → IfSome o (λ node. IsQuast (record { width = m; tree = tree_of node }))
quast_of m None h = tt
quast_of m (Some t) h = record { well_formed = h.well_formed; fits = h.numbers }

pub formed_of : (m : ℕ) (a : model.Answer) → IsPrintableAnswer m a → IsWellFormedAnswer m a
formed_of m model.Void h = tt
formed_of m (model.Solved t) h = h.well_formed
