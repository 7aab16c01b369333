-- The numbers of a context's point.
use Rattle.quast_walk.proofs.Words.{◌≡◌, ℕ, ◌==◌, List, ℤ, Option, Some, None, length, map, eqb-true, IfSome, list_all, widen_to, is_nonneg, both}
use Rattle.pip_model.specs.Contexts.{PointTells}
use Rattle.pip_model.specs.Problem.{is_vector, all_nonneg}

-- it has one for each place
pub point_places : (w : ℕ) (K : List (List ℤ)) (o : Option (List ℤ)) → PointTells w K o → IfSome o (λ p. length p ≡ w)
point_places w K None h = tt
point_places w K (Some p) h =
    let vector = (both (is_vector w p) (all_nonneg (map (widen_to w) K) p) h).0 in
    eqb-true (length p) w (both (length p == w) (list_all is_nonneg p) vector).0
