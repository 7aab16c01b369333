-- The kept run goes on with all forms of a context, read in lanes.
use Rattle.lane_questions.proofs.Words.{◌≡◌, ◌∙◌, ap, subst, ℕ, ◌^◌, ◌<◌, arith, None, ℤ, List, [], ◌++◌, map, append-nil, widen_to, ScaledTable, negative_from, all_lanes, AreWithin, LaneVertex, IsKeptLanes, IsEndedLanes, run_rows, forms_of, AreModest, IsRowBelow}
use Rattle.lane_questions.proofs.Widened.{all_widened, all_modest}

module _ (n : ℕ) (K : List (List ℤ)) (v : LaneVertex) (all : List (List ℤ)) (kept : IsKeptLanes n K v) (is : all ≡ all_lanes K) where
  forms_are : forms_of v.table.unknowns (all ++ []) ≡ map (widen_to n) K
  forms_are =
      ap (forms_of v.table.unknowns) (append-nil all ∙ is)
      ∙ ap (λ (k : ℕ). forms_of k (all_lanes K)) kept.unknowns
      ∙ all_widened n K kept.few kept.context

  module _ (t : ScaledTable) (same : t ≡ v.table) where
    pub ends_here : negative_from 0 (run_rows t (forms_of t.unknowns (all ++ []))) ≡ None → IsEndedLanes n K v
    ends_here none = record {
      kept = kept;
      end = subst (λ (F : List (List ℤ)). negative_from 0 (run_rows v.table F) ≡ None) forms_are
          (subst (λ (x : ScaledTable). negative_from 0 (run_rows x (forms_of x.unknowns (all ++ []))) ≡ None) same none);
    }

    pub below_here : (row : List ℤ) → IsRowBelow t (forms_of t.unknowns (all ++ [])) row → IsRowBelow v.table (map (widen_to n) K) row
    below_here row below = subst (λ (F : List (List ℤ)). IsRowBelow v.table F row) forms_are (subst (λ (x : ScaledTable). IsRowBelow x (forms_of x.unknowns (all ++ [])) row) same below)

  pub modest_here : (most : ℕ) → AreWithin most all → most < 2 ^ 30 → AreModest n (map (widen_to n) K)
  modest_here most within lt = all_modest n K most kept.few kept.context (subst (AreWithin most) is within) (omega (arith, lt))
