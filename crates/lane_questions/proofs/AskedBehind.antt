-- A question in lanes is one form more behind the kept run of a context's forms.
use Rattle.lane_questions.proofs.Words.{◌≡◌, ◌∙◌, ap, ap₂, sym, subst, ℕ, ◌^◌, ◌<◌, ℤ, List, [], ◌∷◌, ◌++◌, take, map-append, IsContext, IsNarrow, combination, row_over, ScaledTable, IsBehind, lanes_of, all_lanes, AreWithin, LaneVertex, IsQuestion, forms_of}
use Rattle.lane_run.specs.Laned.{numbers_of}
use Rattle.lane_questions.proofs.Widened.{widened, all_widened, all_modest}

one_more_form : (n : ℕ) (K : List (List ℤ)) (c : List ℤ) → IsContext n K → IsNarrow n c → IsContext n (K ++ c ∷ [])
one_more_form n [] c h narrow = (narrow, tt)
one_more_form n (d ∷ K) c h narrow = (h.0, one_more_form n K c h.1 narrow)

module _ (n : ℕ) (K : List (List ℤ)) (c : List ℤ) (all : List (List ℤ)) (one : List ℤ) (v : LaneVertex) (is : IsQuestion n K c all one v) where
  same_forms : all ++ one ∷ [] ≡ all_lanes (K ++ c ∷ [])
  same_forms = ap₂ (λ (xs : List (List ℤ)) (x : List ℤ). xs ++ x ∷ []) is.forms is.form ∙ sym (map-append lanes_of K (c ∷ []))

  context : IsContext n (K ++ c ∷ [])
  context = one_more_form n K c is.kept.kept.context is.narrow

  pub behind : (most : ℕ) (row : List ℤ) (t : ScaledTable) → t ≡ v.table → AreWithin most (all ++ one ∷ []) → most < 2 ^ 31
      → row_over t.unknowns t.scale (numbers_of t.unknowns row) ≡ combination t.unknowns 0 t.scale (take t.unknowns t.rows) (numbers_of t.unknowns one) → IsBehind n K c (all ++ one ∷ []) row v
  behind most row t same within small value = record {
    kept = is.kept;
    narrow = is.narrow;
    forms = ap (forms_of n) same_forms ∙ all_widened n (K ++ c ∷ []) is.kept.kept.few context;
    modest = all_modest n (K ++ c ∷ []) most is.kept.kept.few context (subst (AreWithin most) same_forms within) small;
    value =
        subst (λ (k : ℕ). row_over k v.table.scale (numbers_of k row) ≡ combination k 0 v.table.scale (take k v.table.rows) (numbers_of k one)) is.kept.kept.unknowns
        (subst (λ (x : ScaledTable). row_over x.unknowns x.scale (numbers_of x.unknowns row) ≡ combination x.unknowns 0 x.scale (take x.unknowns x.rows) (numbers_of x.unknowns one)) same value)
        ∙ ap (combination n 0 v.table.scale (take n v.table.rows)) (ap (numbers_of n) is.form ∙ widened n c is.kept.kept.few is.narrow);
  }
