-- A kept run makes one pivot more.
use Rattle.lane_questions.proofs.Words.{◌≡◌, ◌∙◌, refl, ap, sym, subst, ℕ, zero, suc, ◌+◌, arith, ℤ, List, ◌++◌, length, map, length-map, map-append, widen_to, Work, Outcome, Done, Refused, Counted, go_on, count_pivot, ScaledTable, finds_point, LaneVertex, counted_pivots, IsKeptLanes, IsPivoted, run_rows, IsRowBelow, front_finds, below_further}

-- k pivots and then one are k + 1 pivots
pub one_more : {X : Type 0} (k : ℕ) (w : Work) (part : Counted X) → go_on (counted_pivots k w) (λ counted v. go_on (count_pivot v) (λ again. part)) ≡ go_on (counted_pivots (suc k) w) (λ counted. part)
one_more {X} zero w part = by (count_pivot w)
  where
    by : (o : Outcome (Unit {0})) → go_on o (λ again. part) ≡ go_on (go_on o (λ done. counted_pivots zero)) (λ counted. part)
    by (Done x v) = refl
    by (Refused f v) = refl
one_more {X} (suc k) w part = by (count_pivot w) (λ v. one_more k v part)
  where
    by : (o : Outcome (Unit {0})) → ((v : Work) → go_on (counted_pivots k v) (λ counted u. go_on (count_pivot u) (λ again. part)) ≡ go_on (counted_pivots (suc k) v) (λ counted. part))
        → go_on (go_on o (λ done. counted_pivots k)) (λ counted v. go_on (count_pivot v) (λ again. part)) ≡ go_on (go_on o (λ done. counted_pivots (suc k))) (λ counted. part)
    by (Done x v) fewer = fewer v
    by (Refused f v) fewer = refl

same_parts : {X : Type 0} (o : Outcome (Unit {0})) (first second : Counted X) → ((v : Work) → first v ≡ second v) → go_on o (λ counted. first) ≡ go_on o (λ counted. second)
same_parts (Done x v) first second e = e v
same_parts (Refused f v) first second e = refl

module _ (t now : ScaledTable) (k : ℕ) (p : List ℤ) (c : ℕ) (is : IsPivoted t now p c) where
  abbrev before : LaneVertex
  before = record { table = t; pivots = k }

  abbrev after : LaneVertex
  after = record { table = now; pivots = k + 1 }

  step_alone : (K : List (List ℤ)) → IsRowBelow t (map (widen_to t.unknowns) K) p → IsKeptLanes t.unknowns K before → IsKeptLanes t.unknowns K after
  step_alone K below kept = record {
    few = kept.few;
    unknowns = is.unknowns;
    width = is.table.width;
    alone = ap length is.rows ∙ length-map t.rows _ ∙ kept.alone;
    context = kept.context;
    run = λ M w context modest.
        let n = t.unknowns in
        let more : suc k ≡ k + 1 = omega arith in
        let forms : map (widen_to n) (K ++ M) ≡ map (widen_to n) K ++ map (widen_to n) M = map-append (widen_to n) K M in
        let here : IsRowBelow t (map (widen_to n) (K ++ M)) p
        = subst (λ (F : List (List ℤ)). IsRowBelow t F p) (sym forms) (below_further t (map (widen_to n) K) (map (widen_to n) M) p kept.alone below) in
        kept.run M w context modest
        ∙ same_parts (counted_pivots k w) (finds_point n (run_rows t (map (widen_to n) (K ++ M)))) (λ v. go_on (count_pivot v) (λ counted. finds_point n (run_rows now (map (widen_to n) (K ++ M)))))
        (λ v. front_finds t now p c (map (widen_to n) (K ++ M)) v is modest here)
        ∙ one_more k w (finds_point n (run_rows now (map (widen_to n) (K ++ M))))
        ∙ ap (λ (j : ℕ). go_on (counted_pivots j w) (λ counted. finds_point n (run_rows now (map (widen_to n) (K ++ M))))) more;
  }

  pub steps_on : (n : ℕ) (K : List (List ℤ)) → IsRowBelow t (map (widen_to n) K) p → IsKeptLanes n K before → IsKeptLanes n K after
  steps_on n K below kept =
      subst (λ (m : ℕ). IsRowBelow t (map (widen_to m) K) p → IsKeptLanes m K before → IsKeptLanes m K after) kept.unknowns (step_alone K) below kept
