-- The point of a context itself, behind the kept run of its forms.
use Rattle.lane_questions.proofs.Words.{◌≡◌, ◌∙◌, ap, sym, subst, ℕ, ◌^◌, ◌<◌, ◌≤◌, arith, ℤ, List, [], ◌++◌, map, append-nil, widen_to, Work, HasRoomFor, counted_more, has_point, finds_point, first_rows, all_lanes, AreWithin, LaneVertex, IsKeptLanes, IsEndedLanes, run_rows, forms_of, AreModest, alone_is}
use Rattle.lane_questions.proofs.KeptRuns.{goes_on_kept}
use Rattle.lane_questions.proofs.Widened.{all_widened, all_modest}

module _ (n : ℕ) (K : List (List ℤ)) (v : LaneVertex) (is : IsEndedLanes n K v) where
  abbrev F : List (List ℤ)
  F = map (widen_to n) K

  kept : IsKeptLanes n K v
  kept = is.kept

  pub modest_own : (most : ℕ) (all : List (List ℤ)) → all ≡ all_lanes K → AreWithin most all → most < 2 ^ 30 → AreModest n F
  modest_own most all same within small = all_modest n K most kept.few kept.context (subst (AreWithin most) same within) (omega (arith, small))

  pub forms_own : (all : List (List ℤ)) → all ≡ all_lanes K → F ≡ forms_of v.table.unknowns (all ++ [])
  forms_own all same =
      sym (all_widened n K kept.few kept.context)
      ∙ ap (λ (k : ℕ). forms_of k (all_lanes K)) (sym kept.unknowns)
      ∙ ap (forms_of v.table.unknowns) (sym (append-nil all ∙ same))

  -- the run of all forms, behind its pivots
  pub goes_on_own : (w u : Work) (k : ℕ) → k ≡ v.pivots → HasRoomFor w (record { pivots = k; cuts = 0; splits = 0 }) → u ≡ counted_more w (record { pivots = k; cuts = 0; splits = 0 })
      → 1 ≤ n → AreModest n F → has_point n K w ≡ finds_point v.table.unknowns (run_rows v.table F) u
  goes_on_own w u k same room counted some modest =
      alone_is n K w
      ∙ subst (λ (forms : List (List ℤ)). AreModest n (map (widen_to n) forms) → finds_point n (first_rows n forms) w ≡ finds_point v.table.unknowns (run_rows v.table (map (widen_to n) forms)) u)
      (append-nil K) (goes_on_kept n K v kept w u k same room counted [] tt) modest
