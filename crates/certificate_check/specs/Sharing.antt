-- How the proofs of a leaf are shared, by the numbers of its known forms alone.
use Rattle.std.specs.Prelude.{◌≡◌, ℕ, zero, suc, ◌+◌, ◌<◌, ℤ, List, [], ◌∷◌, ◌++◌, length, map, replicate, slice_index_or, Option, Some, None}
use Rattle.pip_model.specs.Problem.{Problem}
use Rattle.pip_model.specs.Tree.{Tree, Bottom, Leaf, If, NewParm, Component, leaves}
use Rattle.pip_model.specs.Certificate.{LeafProofs}
use Rattle.pip_model.specs.Check.{Premises}
use Rattle.pip_model.specs.Share.{lowered, moved_index, shared_by, after_shared}
use Rattle.leaf_check.specs.Leaves.{goal_count}
use Rattle.certificate_check.specs.Paths.{no_proofs}
use Rattle.certificate_check.specs.declared.numbering.Renumbering.{Renumbering}
use Rattle.certificate_check.specs.declared.numbering.Renumbering.TheVariants as by

-- the index that a form has then
abbrev pub index_of : Renumbering → ℤ → ℤ
index_of (by.Lowered n) i = lowered n.leaf n.own i
index_of (by.Moved n shared) i = moved_index n.leaf n.own shared i

-- n, n + 1, ..
abbrev pub counts_from : ℕ → ℕ → List ℕ
counts_from n zero = []
counts_from n (suc k) = n ∷ counts_from (n + 1) k

-- how many forms each refutation of a leaf has of its own
abbrev pub own_sizes : Problem → Option (List Component) → List ℕ
own_sizes P None = (P.unknowns + length P.rows) ∷ []
own_sizes P (Some cs) =
    replicate (length P.rows + length cs) 1 ++ counts_from (P.unknowns + length P.rows + 1) (length cs)

-- so many forms
abbrev pub sized : ℕ → Premises
sized n = record { known = replicate n []; listed = [] }

-- the proofs of a leaf with b forms
abbrev pub share_sized : ℕ → List ℕ → LeafProofs → LeafProofs
share_sized b sizes p =
    let first = shared_by b (map sized sizes) p.refutations in
    record { shared = first; refutations = after_shared b (length first) (map sized sizes) p.refutations }

-- the proofs of leaf l, from 0, whose path has n forms
abbrev pub share_at : Problem → List LeafProofs → ℕ → ℕ → Option (List Component) → LeafProofs
share_at P ps n l list =
    share_sized (P.params + length P.context + n) (own_sizes P list) (slice_index_or ps l no_proofs)

-- those of the leaves below a node whose path has n forms, of which the first is l
abbrev pub share_below : Problem → List LeafProofs → ℕ → ℕ → Tree → List LeafProofs
share_below P ps n l Bottom = share_at P ps n l None ∷ []
share_below P ps n l (Leaf cs) = share_at P ps n l (Some cs) ∷ []
share_below P ps n l (If v a b) = share_below P ps (n + 1) l a ++ share_below P ps (n + 1) (l + leaves a) b
share_below P ps n l (NewParm v d a) = share_below P ps (n + 2) l a

-- leaf l has proofs, as many refutations as there are to be
abbrev pub IsCountedAt : Problem → List LeafProofs → ℕ → Option (List Component) → Type 0
IsCountedAt P ps l list = (l < length ps) × (length (slice_index_or ps l no_proofs).refutations ≡ goal_count P list)

abbrev pub IsCounted : Problem → List LeafProofs → ℕ → Tree → Type 0
IsCounted P ps l Bottom = IsCountedAt P ps l None
IsCounted P ps l (Leaf cs) = IsCountedAt P ps l (Some cs)
IsCounted P ps l (If v a b) = IsCounted P ps l a × IsCounted P ps (l + leaves a) b
IsCounted P ps l (NewParm v d a) = IsCounted P ps l a
