-- The kept run of a context's forms: where it starts, that it goes on with further forms, and what it counts.
use Rattle.lane_questions.proofs.Words.{◌≡◌, ◌∙◌, refl, ap, ap₂, sym, subst, ℕ, zero, suc, ◌+◌, ◌<◌, ◌≤◌, ℤ, pos, arith, true, List, [], ◌∷◌, ◌++◌, length, map, take, drop, append-nil, append_assoc, take_all, drop_all, length-map, take-append-drop, nat_lt, widen_to, IsContext, Row, start, unit_row, count_from, Work, Done, go_on, count_pivot, length-count, HasCounted, HasRoomFor, counted_more, finds_point, first_rows, Form, rows_by, AllForms, ScaledTable, column_rows, LaneVertex, counted_pivots, IsKeptLanes, run_rows, AreModest}
use Rattle.form_laws.proofs.Begun.{start_by}
use Rattle.scaled_laws.specs.Kept.{kept_of}

-- ---- counts

counts_one : (w : Work) → w.pivots < w.budget.pivots → count_pivot w ≡ Done tt (record w { pivots = w.pivots + 1 })
counts_one w h = let e : nat_lt w.pivots w.budget.pivots ≡ true = grind arith in rw e refl

pub counts_all : (k : ℕ) (w : Work) → w.pivots + k ≤ w.budget.pivots → counted_pivots k w ≡ Done tt (record w { pivots = w.pivots + k })
counts_all zero w h = let e : w.pivots ≡ w.pivots + 0 = omega arith in ap (λ (p : ℕ). Done tt (record w { pivots = p })) e
counts_all (suc k) w h =
    ap (λ o. go_on o (λ counted. counted_pivots k)) (counts_one w (omega (arith, h)))
    ∙ counts_all k (record w { pivots = w.pivots + 1 }) (omega (arith, h))
    ∙ ap (λ (p : ℕ). Done tt (record w { pivots = p })) (omega arith)

-- ---- the start

all_forms : (n : ℕ) (F : List (List ℤ)) → AreModest n F → AllForms n 0 F
all_forms n [] h = tt
all_forms n (f ∷ F) h = (omega (arith, ((h 0 [] (omega arith)).long)), all_forms n F (λ k d lt. h (suc k) d (omega (arith, lt))))

module _ (n : ℕ) (F : List (List ℤ)) where
  abbrev units : List Row
  units = map (unit_row n 0) (count_from 0 n)

  pub start_is : AreModest n F → length (start n 0 []) ≡ n → start n 0 F ≡ run_rows (column_rows n 0) F
  start_is h long =
      let all : take n (start n 0 []) ≡ start n 0 [] = take_all n (start n 0 []) (omega (arith, long)) in
      let none : drop n (start n 0 []) ≡ [] = drop_all n (start n 0 []) (omega (arith, long)) in
      start_by n 0 F (all_forms n F h)
      ∙ ap (λ (rows : List Row). rows_by n 0 (pos 1) rows (map Form F)) (sym (all ∙ append-nil units))
      ∙ ap (rows_by n 0 (pos 1) (take n (start n 0 []))) (sym (append-nil (map Form F)))
      ∙ ap (λ (rows : List Row). rows_by n 0 (pos 1) (take n (start n 0 [])) (kept_of F rows)) (sym none)

start_long : (n : ℕ) → length (start n 0 []) ≡ n
start_long n = ap length (append-nil (map (unit_row n 0) (count_from 0 n))) ∙ length-map (count_from 0 n) (unit_row n 0) ∙ length-count 0 n

pub begins : (n : ℕ) → n ≤ 7 → (v : LaneVertex) → v.table ≡ column_rows n 0 → v.pivots ≡ 0 → IsKeptLanes n [] v
begins n few v table pivots = subst (IsKeptLanes n []) is first
  where
    is : record { table = column_rows n 0; pivots = 0 } ≡ v
    is = ap₂ (λ (t : ScaledTable) (k : ℕ). record { table = t; pivots = k }) (sym table) (sym pivots)

    first : IsKeptLanes n [] (record { table = column_rows n 0; pivots = 0 })
    first = record {
      few = few;
      unknowns = refl;
      width = refl;
      alone = start_long n;
      context = tt;
      run = λ M w context modest. ap (λ (rows : List Row). finds_point n rows w) (start_is n (map (widen_to n) M) modest (start_long n));
    }

-- ---- further forms

both_parts : (n : ℕ) (K M : List (List ℤ)) → IsContext n K → IsContext n M → IsContext n (K ++ M)
both_parts n [] M h k = k
both_parts n (c ∷ K) M h k = (h.0, both_parts n K M h.1 k)

last_part : (n i : ℕ) (K : List (List ℤ)) → IsContext n K → IsContext n (drop i K)
last_part n zero K h = h
last_part n (suc i) [] h = tt
last_part n (suc i) (c ∷ K) h = last_part n i K h.1

-- the run of the first of some forms is one of all of them
pub kept_further : (n i : ℕ) (K : List (List ℤ)) (v : LaneVertex) → IsContext n K → IsKeptLanes n (take i K) v → IsKeptLanes n K v
kept_further n i K v context kept = record {
  few = kept.few;
  unknowns = kept.unknowns;
  width = kept.width;
  alone = kept.alone;
  context = context;
  run = λ M w h modest.
      let same : take i K ++ (drop i K ++ M) ≡ K ++ M = sym (append_assoc (take i K) (drop i K) M) ∙ ap (λ (xs : List (List ℤ)). xs ++ M) (take-append-drop i K) in
      subst (λ (forms : List (List ℤ)). finds_point n (first_rows n forms) w ≡ go_on (counted_pivots v.pivots w) (λ counted. finds_point n (run_rows v.table (map (widen_to n) forms))))
      same
      (kept.run (drop i K ++ M) w (both_parts n (drop i K) M (last_part n i K context) h)
      (subst (λ (forms : List (List ℤ)). AreModest n (map (widen_to n) forms)) (sym same) modest));
}

-- ---- behind its pivots

-- so many pivots are counted, as by the run's record of them
module _ (w u : Work) (k : ℕ) (counted : u ≡ counted_more w (record { pivots = k; cuts = 0; splits = 0 })) where
  pivots_counted : u ≡ record w { pivots = w.pivots + k }
  pivots_counted =
      let cuts : w.cuts + 0 ≡ w.cuts = omega arith in
      let splits : w.splits + 0 ≡ w.splits = omega arith in
      counted
      ∙ ap (λ (x : ℕ). record w { pivots = w.pivots + k; cuts = x; splits = w.splits + 0 }) cuts
      ∙ ap (λ (x : ℕ). record w { pivots = w.pivots + k; splits = x }) splits

  pub counted_kept : HasCounted w u
  counted_kept = subst (HasCounted w) (sym pivots_counted) (record { budget = refl; pivots = omega arith; cuts = omega arith; splits = omega arith })

module _ (n : ℕ) (K : List (List ℤ)) (v : LaneVertex) (kept : IsKeptLanes n K v) (w u : Work) (k : ℕ) (same : k ≡ v.pivots)
    (room : HasRoomFor w (record { pivots = k; cuts = 0; splits = 0 })) (counted : u ≡ counted_more w (record { pivots = k; cuts = 0; splits = 0 })) where
  pub goes_on_kept : (M : List (List ℤ)) → IsContext n M → AreModest n (map (widen_to n) (K ++ M))
      → finds_point n (first_rows n (K ++ M)) w ≡ finds_point v.table.unknowns (run_rows v.table (map (widen_to n) (K ++ M))) u
  goes_on_kept M context modest =
      kept.run M w context modest
      ∙ ap (λ (j : ℕ). go_on (counted_pivots j w) (λ counted. finds_point n (run_rows v.table (map (widen_to n) (K ++ M))))) (sym same)
      ∙ ap (λ o. go_on o (λ counted. finds_point n (run_rows v.table (map (widen_to n) (K ++ M))))) (counts_all k w room.pivots ∙ ap (Done tt) (sym (pivots_counted w u k counted)))
      ∙ ap (λ (m : ℕ). finds_point m (run_rows v.table (map (widen_to n) (K ++ M))) u) (sym kept.unknowns)
