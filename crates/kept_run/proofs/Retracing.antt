-- The run that keeps a trace, with further rows behind those whose pivots are remembered.
use Rattle.kept_run.proofs.Words.{◌≡◌, ◌∙◌, refl, ap, sym, subst, ℕ, zero, suc, ◌+◌, ◌<◌, arith, List, [], ◌∷◌, ◌++◌, length, length-append, get_or, map, flat_map, Row, row_at, pivot, eliminated, eliminated_listed, Work, Outcome, Done, Refused, Refusal, Counted, Again, go_on, give, listed, count_pivot, turn, point_setting, again_run, refused_run_from, falls-constant_class, Node, Trace, refute_from, next_trace, refute-again, refute-refused, node_of, turned, replayed, traced_point, RetracesTo, exchanged, exchanges, IsStep, negative-front, entering-front, turn-behind}
use Rattle.kept_run.proofs.Replaying.{replayed-append, given}
use Rattle.point_turns.proofs.NextTraces.{next-pivot}

-- a run with a trace goes on from turn to turn
pub record IsTurnwise {Y : Type 0} (n : ℕ) (run : Trace → Node → Counted Y) : Type 0 where
  pub again : (T : Trace) (N M : Node) (w v : Work) → turn (point_setting n) N w ≡ Done (Again M) v → run T N w ≡ run (next_trace n N T) M v
  pub refused : (T : Trace) (N : Node) (f : Refusal) (w v : Work) → turn (point_setting n) N w ≡ Refused f v → run T N w ≡ Refused f v

pub points : (n : ℕ) → IsTurnwise n (traced_point n)
points n = record {
  again = λ T N M w v e. again_run (point_setting n) falls-constant_class N M w v e;
  refused = λ T N f w v e. refused_run_from (point_setting n) falls-constant_class N w v f e;
}

pub refutes : (n : ℕ) → IsTurnwise n (refute_from n)
refutes n = record { again = λ T N M w v e. refute-again n T N M w v e; refused = λ T N f w v e. refute-refused n T N f w v e }

-- with further rows behind, a pivot turns them, and the run goes on with the next trace
step-traced : {Y : Type 0} (n : ℕ) (run : Trace → Node → Counted Y) → IsTurnwise n run → (R F : List Row) (r c : ℕ) (T : Trace) (w : Work) → IsStep R r c
    → run T (node_of (R ++ F)) w ≡ go_on (turned (row_at R r) c F w) (λ now. run (exchanged T r c) (node_of (pivot R r c ++ now)))
step-traced n run on R F r c T w is = counted (count_pivot w) (turn-behind n R F r c w is)
  where
    G : List Row
    G = map (eliminated (row_at R r) c) F

    N : Node
    N = node_of (pivot R r c ++ G)

    here : Node
    here = node_of (R ++ F)

    next : next_trace n here T ≡ exchanged T r c
    next = next-pivot n (R ++ F) T r c (negative-front R F 0 r is.below) (entering-front R F r is.within is.columns ∙ is.enters)

    checked : (o : Outcome (Unit {0})) → turn (point_setting n) here w ≡ go_on o (λ checked. give (Again N))
        → run T here w ≡ go_on (go_on o (λ checked. give G)) (λ now. run (exchanged T r c) (node_of (pivot R r c ++ now)))
    checked (Done x v) e = on.again T here N w v e ∙ ap (λ (U : Trace). run U N v) next
    checked (Refused f v) e = on.refused T here f w v e

    counted : (o : Outcome (Unit {0}))
        → turn (point_setting n) here w ≡ go_on o (λ counted v. go_on (listed (flat_map (eliminated_listed (row_at R r) c) F) v) (λ checked. give (Again N)))
        → run T here w
        ≡ go_on (go_on o (λ counted v. go_on (listed (flat_map (eliminated_listed (row_at R r) c) F) v) (λ checked. give G))) (λ now. run (exchanged T r c) (node_of (pivot R r c ++ now)))
    counted (Done x v) e = checked (listed (flat_map (eliminated_listed (row_at R r) c) F) v) e
    counted (Refused f v) e = on.refused T here f w v e

-- the two parts of exchanges
exchanges-append : (rs ss cs ds : List ℕ) (T : Trace) → length rs ≡ length cs → exchanges (rs ++ ss) (cs ++ ds) T ≡ exchanges ss ds (exchanges rs cs T)
exchanges-append [] ss [] ds T e = refl
exchanges-append (r ∷ rs) ss (c ∷ cs) ds T e = exchanges-append rs ss cs ds (exchanged T r c) (omega (arith, e))
exchanges-append _ ss _ ds T e = absurd (omega arith)

pub retraces-more : {Y : Type 0} (n : ℕ) (run : Trace → Node → Counted Y) → IsTurnwise n run → (first : List Row) (ps : List Row) (rs cs : List ℕ) (E : List Row) (r c : ℕ)
    → length ps ≡ length cs → length rs ≡ length cs
    → RetracesTo run first ps rs cs E → IsStep E r c → RetracesTo run first (ps ++ row_at E r ∷ []) (rs ++ r ∷ []) (cs ++ c ∷ []) (pivot E r c)
retraces-more n run on first ps rs cs E r c e f before is T rows w =
    before T rows w
    ∙ each (replayed ps cs rows w)
    ∙ ap (λ (U : Trace). go_on (go_on (replayed ps cs rows w) (λ now. replayed (row_at E r ∷ []) (c ∷ []) now)) (λ now. run U (node_of (pivot E r c ++ now)))) (sym (exchanges-append rs (r ∷ []) cs (c ∷ []) T f))
    ∙ ap (λ o. go_on o (λ now. run (exchanges (rs ++ r ∷ []) (cs ++ c ∷ []) T) (node_of (pivot E r c ++ now)))) (sym (replayed-append ps (row_at E r ∷ []) cs (c ∷ []) rows w e))
  where
    each : (o : Outcome (List Row)) → go_on o (λ now. run (exchanges rs cs T) (node_of (E ++ now)))
        ≡ go_on (go_on o (λ now. replayed (row_at E r ∷ []) (c ∷ []) now)) (λ now. run (exchanged (exchanges rs cs T) r c) (node_of (pivot E r c ++ now)))
    each (Done F v) =
        step-traced n run on E F r c (exchanges rs cs T) v is
        ∙ sym (given (turned (row_at E r) c F v) (λ now. run (exchanged (exchanges rs cs T) r c) (node_of (pivot E r c ++ now))))
    each (Refused f v) = refl

-- the rows of the pivots stand among the first ones
pub within-more : (k : ℕ) (rs : List ℕ) (r : ℕ) (cs : List ℕ) (c : ℕ) → length rs ≡ length cs → ((i : ℕ) → i < length cs → get_or rs i 0 < k) → r < k
    → (i : ℕ) → i < length (cs ++ c ∷ []) → get_or (rs ++ r ∷ []) i 0 < k
within-more k [] r [] c e all h zero l = h
within-more k (q ∷ rs) r (d ∷ cs) c e all h zero l = all 0 (omega arith)
within-more k (q ∷ rs) r (d ∷ cs) c e all h (suc i) l = within-more k rs r cs c (omega (arith, e)) (λ j m. all (suc j) (omega (arith, m))) h i (omega (arith, l))
within-more k _ r _ c e all h _ l = absurd (omega arith)

pub places-more : (rs cs : List ℕ) (r c : ℕ) → length rs ≡ length cs → length (rs ++ r ∷ []) ≡ length (cs ++ c ∷ [])
places-more rs cs r c e = length-append rs (r ∷ []) ∙ ap (λ k. k + 1) e ∙ sym (length-append cs (c ∷ []))

pub retraces-made : {Y : Type 0} (run : ℕ → Trace → Node → Counted Y) (n k : ℕ) (first ps qs : List Row) (rs ss cs ds : List ℕ) (E F : List Row) → RetracesTo (run n) first ps rs cs E
    → k ≡ n → qs ≡ ps → ss ≡ rs → ds ≡ cs → F ≡ E → RetracesTo (run k) first qs ss ds F
retraces-made run n k first ps qs rs ss cs ds E F is a b c d e =
    subst (λ x. RetracesTo (run x) first qs ss ds F) (sym a)
    (subst (λ (x : List Row). RetracesTo (run n) first x ss ds F) (sym b)
    (subst (λ (x : List ℕ). RetracesTo (run n) first ps x ds F) (sym c)
    (subst (λ (x : List ℕ). RetracesTo (run n) first ps rs x F) (sym d)
    (subst (λ (x : List Row). RetracesTo (run n) first ps rs cs x) (sym e) is))))
