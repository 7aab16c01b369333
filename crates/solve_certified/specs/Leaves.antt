-- The refutations of a leaf, each by its place.
use Rattle.std.specs.Prelude.{◌≡◌, ℕ, ◌+◌, List, length, slice_index_or, IsTrue, option_copied}
use Rattle.pip_model.specs.Problem.{Problem}
use Rattle.pip_model.specs.Certificate.{Refutation, LeafProofs}
use Rattle.pip_model.specs.Check.{LeafCase, joined, leaf_forms, leaf_premises, scope_forms, is_whole_list}
use Rattle.pip_model.specs.Run.{Counted, ◌>>=◌, give}
use Rattle.pip_model.specs.Made.{PathQuotient, made_refutation, made_leaf, unshared}
use Rattle.certificate_check.specs.Known.{KnownForms}
use Rattle.certificate_check.specs.Leaves.{case_of, nothing, IsLeaf}
use Rattle.certificate_check.specs.Turned.{AreBehind}
use Rattle.solve_certified.specs.Goals.{unknowns_at}
use Rattle.solve_certified.specs.Quotients.{ReadsPlaces}
use Rattle.solve_certified.specs.declared.refutation.Scope.{Scope}
use Rattle.solve_certified.specs.declared.leaf.LeafMaking.{LeafMaking}

-- refutation r of a leaf, from 0
abbrev pub made_at : Problem → LeafCase → List PathQuotient → ℕ → Counted Refutation
made_at P L ks r =
    made_refutation P L ks (unknowns_at P L.list r)
    (joined (leaf_forms P L) (slice_index_or (leaf_premises P L L.list) r nothing))

abbrev pub made_proofs : Problem → LeafCase → List PathQuotient → Counted LeafProofs
made_proofs P L ks = do
  rs ← made_leaf P L ks L.list
  give (unshared rs)

-- what is in scope at a leaf
pub record IsScopeOf (P : Problem) (L : LeafCase) (s : Scope) : Type 0 where
  pub params : s.params ≡ P.params
  pub front : s.front ≡ P.params + length P.context
  pub own : s.own ≡ P.params + length P.context + length L.path
  pub scope : L.scope ≡ P.params + length s.quotients.now
  pub reads : ReadsPlaces P.params s.quotients.now

-- a leaf that is a list's or a bottom's, and what is in scope there
pub record IsMaking (m : LeafMaking) : Type 0 where
  pub leaf : IsLeaf m.leaf.problem.now (case_of m.leaf)
  pub whole : IsTrue (is_whole_list m.leaf.problem.now.unknowns (option_copied m.leaf.list))
  pub scope : IsScopeOf m.leaf.problem.now (case_of m.leaf) m.scope

-- the forms of the refutation in front of refutation r, over the leaf's places and the unknowns; the leaf's in front of
-- the first
pub record IsBefore (m : LeafMaking) (r : ℕ) (known : KnownForms) : Type 0 where
  pub width : known.width ≡ m.leaf.scope + m.leaf.problem.now.unknowns
  pub behind : AreBehind (scope_forms m.leaf.problem.now (case_of m.leaf)) m.leaf r known
