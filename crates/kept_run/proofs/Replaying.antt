-- A run remembered: from one pivot to the next.
use Rattle.kept_run.proofs.Words.{◌≡◌, ◌∙◌, refl, ap, sym, ℕ, ◌+◌, ◌<◌, arith, List, [], ◌∷◌, ◌++◌, length, map, get_or, drop, Bool, true, false, flat_map, if◌then◌else◌, drop_more, all_fit, Row, row_at, form_row, eliminated, eliminated_listed, Work, Outcome, Done, Refused, Overflow, Counted, ◌>>◌, go_on, give, listed, count_pivot, TableauRows, turned, replayed}

-- the two parts of a replay
pub replayed-append : (ps qs : List Row) (cs ds : List ℕ) (F : List Row) (w : Work) → length ps ≡ length cs
    → replayed (ps ++ qs) (cs ++ ds) F w ≡ go_on (replayed ps cs F w) (λ now. replayed qs ds now)
replayed-append [] qs [] ds F w e = refl
replayed-append (p ∷ ps) qs (c ∷ cs) ds F w e = each (turned p c F w) (λ x v. replayed-append ps qs cs ds x v (omega (arith, e)))
  where
    each : (o : Outcome (List Row)) → ((x : List Row) (v : Work) → replayed (ps ++ qs) (cs ++ ds) x v ≡ go_on (replayed ps cs x v) (λ now. replayed qs ds now))
        → go_on o (λ now. replayed (ps ++ qs) (cs ++ ds) now) ≡ go_on (go_on o (λ now. replayed ps cs now)) (λ now. replayed qs ds now)
    each (Done x v) later = later x v
    each (Refused f v) later = refl
replayed-append _ qs _ ds F w e = absurd (omega arith)

pub given : {B : Type 0} (o : Outcome (List Row)) (k : List Row → Counted B) → go_on (go_on o (λ now. give now)) k ≡ go_on o k
given (Done x v) k = refl
given (Refused f v) k = refl

abbrev counted_on : Work → Outcome (Unit {0})
counted_on v = Done tt v

-- a pivot that is counted, and whose numbers fit
pub turned-made : (p : Row) (c : ℕ) (R : List Row) (w v : Work) (made t : TableauRows) → count_pivot w ≡ counted_on v → all_fit (flat_map (eliminated_listed p c) R) ≡ true
    → made ≡ record t { rows = map (eliminated p c) R } → turned p c R w ≡ Done made.rows v
turned-made p c R w v made t counted fit e =
    ap (λ o. go_on o (λ done. listed (flat_map (eliminated_listed p c) R) >> give (map (eliminated p c) R))) counted
    ∙ checked (all_fit (flat_map (eliminated_listed p c) R)) fit
    ∙ ap (λ (s : TableauRows). Done s.rows v) (sym e)
  where
    checked : (b : Bool) → b ≡ true → go_on (if b then counted_on v else Refused Overflow v) (λ done. give (map (eliminated p c) R)) ≡ Done (map (eliminated p c) R) v
    checked true e = refl
    checked false e = absurd cc

-- one more of the pivots
pub replayed-at : (ps : List Row) (cs : List ℕ) (i : ℕ) (F : List Row) (w : Work) → length ps ≡ length cs → i < length cs
    → replayed (drop i ps) (drop i cs) F w ≡ go_on (turned (row_at ps i) (get_or cs i 0) F w) (λ now. replayed (drop (i + 1) ps) (drop (i + 1) cs) now)
replayed-at ps cs i F w e h = rw (drop_more ps i (form_row 0 []) (omega (arith, e, h)), drop_more cs i 0 h) refl

-- one more of them, made
module _ (ps : List Row) (cs : List ℕ) (i : ℕ) (F : List Row) (w : Work) (e : length ps ≡ length cs) (h : i < length cs) where
  pub replayed-on : (G : List Row) (v : Work) → turned (row_at ps i) (get_or cs i 0) F w ≡ Done G v → replayed (drop i ps) (drop i cs) F w ≡ replayed (drop (i + 1) ps) (drop (i + 1) cs) G v
  replayed-on G v t = replayed-at ps cs i F w e h ∙ ap (λ o. go_on o (λ now. replayed (drop (i + 1) ps) (drop (i + 1) cs) now)) t
