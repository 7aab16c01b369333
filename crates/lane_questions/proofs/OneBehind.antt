-- One form more behind the kept run of a context's forms: its row is the last one.
use Rattle.lane_questions.proofs.Words.{◌≡◌, ◌∙◌, refl, ap, sym, subst, ℕ, ◌+◌, ◌<◌, ℤ, pos, ◌≤ℤ◌, ◌<ℤ◌, arith, Bool, true, false, Option, Some, None, List, [], ◌∷◌, ◌++◌, length, map, take, length-append, map-append, get_or_at, if◌then◌else◌, IfSome, is_some, is_nonneg, entry, constant, widen_to, Row, row_at, divided, form_row, Work, Done, Refused, Refusal, go_on, give, numbers_of, count_pivot, turn, point_setting, refused_run_from, falls-constant_class, HasRoomFor, counted_more, has_point, finds_point, negative_from, node_of, by_form, combination, row_over, ScaledTable, AreLanes, AreUnused, IsBehind, LaneVertex, IsKeptLanes, run_rows, forms_of, AreModest, IsRowBelow, IsEntering, IsPivoted, rows_further, front_finds, front_refused, alone_is, below_behind, is_nonneg_is}
use Rattle.lane_run.specs.Laned.{numbers_of as lane_numbers}
use Rattle.lane_run.proofs.Parts.{below_zero, lanes_sign}
use Rattle.lane_questions.proofs.KeptRuns.{goes_on_kept}

-- ---- the first row below 0 where only the last one can be below 0

last_below : (E : List Row) (r : Row) (i : ℕ) → negative_from i E ≡ None → is_nonneg (constant r.constant) ≡ false → negative_from i (E ++ r ∷ []) ≡ Some (i + length E)
last_below E r i none below = below_behind E (r ∷ []) i none ∙ ap (λ (b : Bool). if b then None else Some (i + length E)) below

last_above : (E : List Row) (r : Row) (i : ℕ) → negative_from i E ≡ None → is_nonneg (constant r.constant) ≡ true → negative_from i (E ++ r ∷ []) ≡ None
last_above E r i none above = below_behind E (r ∷ []) i none ∙ ap (λ (b : Bool). if b then None else Some (i + length E)) above

finds_refused : (n : ℕ) (rows : List Row) (w v : Work) (f : Refusal) → turn (point_setting n) (node_of rows) w ≡ Refused f v → finds_point n rows w ≡ Refused f v
finds_refused n rows w v f e = ap (λ o. go_on o (λ t. give (is_some (numbers_of t)))) (refused_run_from (point_setting n) falls-constant_class (node_of rows) w v f e)

module _ (n : ℕ) (K : List (List ℤ)) (c : List ℤ) (all : List (List ℤ)) (row : List ℤ) (v : LaneVertex) (is : IsBehind n K c all row v) where
  abbrev F : List (List ℤ)
  F = map (widen_to n) (K ++ c ∷ [])

  abbrev E : List Row
  E = run_rows v.table (map (widen_to n) K)

  abbrev basis : List Row
  basis = take v.table.unknowns v.table.rows

  abbrev R : Row
  R = by_form v.table.unknowns 0 v.table.scale basis (widen_to n c)

  kept : IsKeptLanes n K v
  kept = is.kept.kept

  alone : length v.table.rows ≡ v.table.unknowns
  alone = kept.alone ∙ sym kept.unknowns

  all_rows : run_rows v.table F ≡ E ++ R ∷ []
  all_rows = ap (run_rows v.table) (map-append (widen_to n) K (c ∷ [])) ∙ rows_further v.table (map (widen_to n) K) (widen_to n c ∷ []) alone

  -- the run of all forms, behind its pivots
  pub goes_on_behind : (w u : Work) (k : ℕ) → k ≡ v.pivots → HasRoomFor w (record { pivots = k; cuts = 0; splits = 0 }) → u ≡ counted_more w (record { pivots = k; cuts = 0; splits = 0 })
      → has_point n (K ++ c ∷ []) w ≡ finds_point v.table.unknowns (run_rows v.table F) u
  goes_on_behind w u k same room counted = alone_is n (K ++ c ∷ []) w ∙ goes_on_kept n K v kept w u k same room counted (c ∷ []) (is.narrow, tt) is.modest

  pub forms_behind : F ≡ forms_of v.table.unknowns all
  forms_behind = sym is.forms ∙ ap (λ (k : ℕ). forms_of k all) (sym kept.unknowns)

  pub modest_behind : AreModest v.table.unknowns F
  modest_behind = subst (λ (k : ℕ). AreModest k F) (sym kept.unknowns) is.modest

  -- ---- its sign

  module _ (lanes : AreLanes row) (positive : pos 1 ≤ℤ v.table.scale) where
    few : v.table.unknowns < length row
    few = let a = lanes.long in let b = kept.unknowns in let d = kept.few in omega (arith, a, b, d)

    row_is : divided (row_over v.table.unknowns v.table.scale (lane_numbers v.table.unknowns row)) ≡ R
    row_is = ap divided
        (subst (λ (k : ℕ). row_over k v.table.scale (lane_numbers k row) ≡ combination k 0 v.table.scale (take k v.table.rows) (widen_to n c)) (sym kept.unknowns) is.value)

    sign : is_nonneg (entry row 0) ≡ is_nonneg (constant R.constant)
    sign = lanes_sign v.table.unknowns v.table.scale row R positive few row_is refl

    pub row_behind : AreUnused v.table.unknowns row → entry row 0 <ℤ pos 0 → IsRowBelow v.table F row
    row_behind unused lt =
        let e : 0 + length E ≡ length E = omega arith in
        record {
          place = length E;
          first = ap (negative_from 0) all_rows ∙ last_below E R 0 is.kept.end (sym sign ∙ below_zero (entry row 0) lt) ∙ ap Some e;
          within = subst (λ (rows : List Row). length E < length rows) (sym all_rows) (let l = length-append E (R ∷ []) in omega (arith, l));
          lanes = lanes;
          unused = unused;
          same = row_is ∙ sym (ap (λ (rows : List Row). row_at rows (length E)) all_rows ∙ get_or_at E R [] (form_row 0 []) (length E) refl);
        }

    pub none_behind : pos 0 ≤ℤ entry row 0 → negative_from 0 (run_rows v.table F) ≡ None
    none_behind le = ap (negative_from 0) all_rows ∙ last_above E R 0 is.kept.end (sym sign ∙ is_nonneg_is (entry row 0) le)

-- ---- the pivot on its row

pub goes_on_pivoted : (t now : ScaledTable) (p : List ℤ) (c : ℕ) (F all : List (List ℤ)) (w v : Work) → IsPivoted t now p c → AreModest t.unknowns F → IsRowBelow t F p
    → F ≡ forms_of t.unknowns all → count_pivot w ≡ Done tt v → finds_point t.unknowns (run_rows t F) w ≡ finds_point now.unknowns (run_rows now (forms_of now.unknowns all)) v
goes_on_pivoted t now p c F all w v is modest below e counted =
    front_finds t now p c F w is modest below
    ∙ ap (λ o. go_on o (λ done. finds_point t.unknowns (run_rows now F))) counted
    ∙ ap (λ (G : List (List ℤ)). finds_point t.unknowns (run_rows now G) v) e
    ∙ ap (λ (k : ℕ). finds_point k (run_rows now (forms_of k all)) v) (sym is.unknowns)

pub refused_at_pivot : (t : ScaledTable) (p : List ℤ) (c : ℕ) (F : List (List ℤ)) (w v : Work) (o : Option Refusal) → IsEntering t p (Some c) → AreModest t.unknowns F → IsRowBelow t F p
    → IfSome o (λ f. count_pivot w ≡ Refused f v) → IfSome o (λ f. finds_point t.unknowns (run_rows t F) w ≡ Refused f v)
refused_at_pivot t p c F w v None enters modest below e = e
refused_at_pivot t p c F w v (Some f) enters modest below e = finds_refused t.unknowns (run_rows t F) w v f (front_refused t p c w v (Some f) enters e F modest below)
