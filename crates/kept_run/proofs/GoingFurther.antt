-- A run remembered goes on with further rows behind its first ones: they are turned by its pivots, and stand behind its last rows.
use Rattle.kept_run.proofs.Words.{◌≡◌, ◌∙◌, refl, ap, sym, ℕ, ◌+◌, ◌<◌, ℤ, arith, List, [], ◌∷◌, ◌++◌, length, map, get_or, drop, Bool, true, false, flat_map, if◌then◌else◌, map-append, drop_more, append_assoc, flat_map-append, all_fit, Row, row_at, form_row, eliminated, eliminated_listed, Work, Outcome, Done, Refused, Overflow, ◌>>◌, go_on, give, listed, count_pivot, Counted, Node, Trace, node_of, turned, replayed, RetracesTo, IsTurned, exchanges, ◌&&◌, all_fit-append}

abbrev counted_on : Work → Outcome (Unit {0})
counted_on v = Done tt v

-- a pivot turns rows whose numbers fit, and then those behind them
turned-front : (p : Row) (c : ℕ) (R F : List Row) (w : Work) → all_fit (flat_map (eliminated_listed p c) R) ≡ true
    → turned p c (R ++ F) w ≡ go_on (turned p c F w) (λ more. give (map (eliminated p c) R ++ more))
turned-front p c R F w fit =
    ap (λ (zs : List ℤ). go_on (count_pivot w) (λ done. listed zs >> give (map (eliminated p c) (R ++ F)))) (flat_map-append (eliminated_listed p c) R F)
    ∙ ap (λ (now : List Row). go_on (count_pivot w) (λ done. listed (flat_map (eliminated_listed p c) R ++ flat_map (eliminated_listed p c) F) >> give now)) (map-append (eliminated p c) R F)
    ∙ counted (count_pivot w)
  where
    A : List ℤ
    A = flat_map (eliminated_listed p c) R

    B : List ℤ
    B = flat_map (eliminated_listed p c) F

    G : List Row
    G = map (eliminated p c) R

    H : List Row
    H = map (eliminated p c) F

    checked : (a b : Bool) (v : Work) → a ≡ b
        → go_on (if a then counted_on v else Refused Overflow v) (λ done. give (G ++ H))
        ≡ go_on (go_on (if b then counted_on v else Refused Overflow v) (λ done. give H)) (λ more. give (G ++ more))
    checked true false v e = absurd cc
    checked false true v e = absurd cc
    checked _ _ v e = refl

    counted : (o : Outcome (Unit {0})) → go_on o (λ done. listed (A ++ B) >> give (G ++ H)) ≡ go_on (go_on o (λ done. listed B >> give H)) (λ more. give (G ++ more))
    counted (Done x v) = checked (all_fit (A ++ B)) (all_fit B) v (all_fit-append A B ∙ ap (λ (t : Bool). t && all_fit B) fit)
    counted (Refused f v) = refl

turns_more : (p : Row) (c : ℕ) (ps : List Row) (cs : List ℕ) (R now : List Row) → all_fit (flat_map (eliminated_listed p c) R) ≡ true → IsTurned ps cs (map (eliminated p c) R) now
    → IsTurned (p ∷ ps) (c ∷ cs) R now
turns_more p c ps cs R now fit is = record {
  turns = λ F w. ap (λ o. go_on o (λ rows. replayed ps cs rows)) (turned-front p c R F w fit) ∙ each (turned p c F w);
}
  where
    each : (o : Outcome (List Row)) → go_on (go_on o (λ more. give (map (eliminated p c) R ++ more))) (λ rows. replayed ps cs rows)
        ≡ go_on (go_on o (λ rows. replayed ps cs rows)) (λ more. give (now ++ more))
    each (Done more v) = is.turns more v
    each (Refused f v) = refl

-- one more of the pivots
pub turned_at : (ps : List Row) (cs : List ℕ) (i : ℕ) (R now : List Row) → length ps ≡ length cs → i < length cs → all_fit (flat_map (eliminated_listed (row_at ps i) (get_or cs i 0)) R) ≡ true
    → IsTurned (drop (i + 1) ps) (drop (i + 1) cs) (map (eliminated (row_at ps i) (get_or cs i 0)) R) now → IsTurned (drop i ps) (drop i cs) R now
turned_at ps cs i R now e h fit is =
    rw (drop_more ps i (form_row 0 []) (omega (arith, e, h)), drop_more cs i 0 h)
    (turns_more (row_at ps i) (get_or cs i 0) (drop (i + 1) ps) (drop (i + 1) cs) R now fit is)

-- the further rows stand behind the first ones, and what the pivots made of them behind the last ones
pub retraces_further : {Y : Type 0} (run : Trace → Node → Counted Y) (first : List Row) (ps : List Row) (rs cs : List ℕ) (E R now : List Row) → RetracesTo run first ps rs cs E → IsTurned ps cs R now
    → RetracesTo run (first ++ R) ps rs cs (E ++ now)
retraces_further run first ps rs cs E R now before is T F w =
    ap (λ (rows : List Row). run T (node_of rows) w) (append_assoc first R F)
    ∙ before T (R ++ F) w
    ∙ ap (λ o. go_on o (λ rows. run (exchanges rs cs T) (node_of (E ++ rows)))) (is.turns F w)
    ∙ each (replayed ps cs F w)
  where
    each : (o : Outcome (List Row)) → go_on (go_on o (λ more. give (now ++ more))) (λ rows. run (exchanges rs cs T) (node_of (E ++ rows)))
        ≡ go_on o (λ rows. run (exchanges rs cs T) (node_of ((E ++ now) ++ rows)))
    each (Done more v) = ap (λ (rows : List Row). run (exchanges rs cs T) (node_of rows) v) (sym (append_assoc E now more))
    each (Refused f v) = refl
