-- What holds of the parts of a run by any logic that goes from part to part: how a turn comes about, and the run, points and classes.
use Rattle.run_laws.proofs.Words.{◌≡◌, refl, sym, subst, ◌⊎◌, inl, inr, ℕ, zero, suc, ◌+◌, ◌<◌, arith, List, [], ◌∷◌, ◌++◌, length, take, Bool, true, false, nat_lt, nat_le, map, slice_set, not, if◌then◌else◌, list_all, AllByRecursion, is_nonneg, is_positive, is_negative, widen_to, opposite, constant, coefficients, all_fit, opposite_listed, Tree, Bottom, NewParm, If, Row, row_at, pivot, pivot_listed, entering, entering_listed, first_fraction, is_whole, widened, residue_of, find_from, rounding, lower_bound, upper_bound, constant_cut, parametric_cut, rounded, rounded_listed, Work, Done, Refusal, Overflow, Pivots, Cuts, Splits, Nesting, Refused, Counted, ◌>>=◌, ◌>>◌, give, listed, count_pivot, count_cut, count_split, check_nesting, Setting, Node, scope, Turn, Closed, Again, Below, Split, Class, Plus, Minus, Unknown, Signs, AllPlus, MinusAt, UnknownBy, keep, scan, scan_on, turn, turn_by, pivot_turn, split_turn, leaf, last_turn, cut_turn, quotient_cut, known_cut, run, run_from, point, point_run, point_setting, root, numbers_of, class_of, class_above, class_below, class_by_points, IsPointRefusal, if_cases}
use Rattle.std.specs.Prelude.{ℤ, ◌&&◌, Option, Some, None}
use Rattle.run_laws.proofs.Ensured.{OnEnd, Ends, Free, ensures-bind, ensures-give, ensures-weaken, ends-listed}
use Rattle.run_laws.proofs.Turns.{Leads}
use Rattle.run_laws.proofs.Fractions.{fraction_some, below_take}

abbrev pub Any : {A : Type 0} → A → Type 0
Any x = Unit {0}

-- a part holds by a property of its value; an if or a new parameter is counted where it may nest, and there is room for it then
pub record Logic : Type 1 where
  pub Holds : {A : Type 0} → (A → Type 0) → Counted A → Type 0
  pub MayNest : Type 0
  pub Room : ℕ → Type 0
  pub bind : {A B : Type 0} (Q : A → Type 0) (R : B → Type 0) (part : Counted A) (f : A → Counted B) → Holds Q part → ((x : A) → Q x → Holds R (f x)) → Holds R (part >>= f)
  pub gives : {A : Type 0} (Q : A → Type 0) (x : A) → Q x → Holds Q (give x)
  pub weakens : {A : Type 0} (Q R : A → Type 0) (part : Counted A) → ((x : A) → Q x → R x) → Holds Q part → Holds R part
  pub lists : (zs : List ℤ) → Holds (λ (done : Unit {0}). all_fit zs ≡ true) (listed zs)
  pub pivots : Holds (λ (done : Unit {0}). Unit {0}) count_pivot
  pub cuts : Holds (λ (done : Unit {0}). Unit {0}) count_cut
  pub splits : MayNest → Holds (λ (done : Unit {0}). Unit {0}) count_split
  pub nests : MayNest → (n : ℕ) → Holds (λ (done : Unit {0}). Room n) (check_nesting n)

pub counted : (E : Refusal → Type 0) (b : Bool) (v w : Work) (e : Refusal) → E e → OnEnd E (λ (done : Unit {0}). Unit {0}) (if b then Done tt v else Refused e w)
counted E true v w e h = tt
counted E false v w e h = h

-- ---- how a turn comes about

-- by what was told of its forms
pub data IsTurn (S : Setting) (N : Node) (Told : List ℤ → Class → Type 0) (Room : ℕ → Type 0) : Turn → Type 0 where
  bottom : (r : ℕ) → r < length N.rows → Told (row_at N.rows r).constant Minus → entering N.rows r ≡ None → IsTurn S N Told Room (Closed Bottom)
  pivoted : (r c : ℕ) → r < length N.rows → Told (row_at N.rows r).constant Minus → entering N.rows r ≡ Some c → all_fit (pivot_listed N.rows r c) ≡ true → IsTurn S N Told Room (Again (record N { rows = pivot N.rows r c }))
  parted : (r : ℕ) (c : List ℤ) → r < length N.rows → Told (row_at N.rows r).constant (Unknown c) → Room (N.depth + 1)
      → IsTurn S N Told Room (Split c (record N { context = N.context ++ c ∷ []; depth = N.depth + 1 }) (record N { context = N.context ++ opposite c ∷ []; depth = N.depth + 1 }))
  listing : AllByRecursion (λ (r : Row). Told r.constant Plus) N.rows → (S.integer ≡ true → first_fraction S.unknowns N.rows ≡ None) → IsTurn S N Told Room (Closed (leaf S N))
  cut : (i : ℕ) → S.integer ≡ true → i < length N.rows → is_whole (row_at N.rows i).den (coefficients (row_at N.rows i).constant) ≡ true → IsTurn S N Told Room (Again (record N { rows = N.rows ++ constant_cut (row_at N.rows i) ∷ [] }))
  cut_by : (i q : ℕ) → S.integer ≡ true → i < length N.rows → find_from S.params N.quotients (residue_of (row_at N.rows i)) ≡ Some q → IsTurn S N Told Room (Again (record N { rows = N.rows ++ parametric_cut (row_at N.rows i) q ∷ [] }))
  rounds : (i q : ℕ) → S.integer ≡ true → i < length N.rows → find_from S.params N.quotients (residue_of (row_at N.rows i)) ≡ Some q → Told (rounding (scope S N) q (residue_of (row_at N.rows i))) Plus
      → all_fit (rounded_listed (row_at N.rows i) q) ≡ true → IsTurn S N Told Room (Again (record N { rows = slice_set N.rows i (rounded (row_at N.rows i) q) }))
  defines : (i : ℕ) → S.integer ≡ true → i < length N.rows → is_whole (row_at N.rows i).den (coefficients (row_at N.rows i).constant) ≡ false → Room (N.depth + 1)
      → IsTurn S N Told Room (Below (residue_of (row_at N.rows i)) (record {
        rows = map widened N.rows ++ parametric_cut (widened (row_at N.rows i)) (scope S N) ∷ [];
        context = N.context ++ lower_bound (scope S N + 1) (scope S N) (residue_of (row_at N.rows i)) ∷ upper_bound (scope S N + 1) (scope S N) (residue_of (row_at N.rows i)) ∷ [];
        quotients = N.quotients ++ residue_of (row_at N.rows i) ∷ [];
        depth = N.depth + 1;
      }))

module _ (L : Logic) where
  then_do : {B : Type 0} (X : Type 0) (R : B → Type 0) (part : Counted (Unit {0})) (rest : Counted B) → L.Holds (λ (done : Unit {0}). X) part → (X → L.Holds R rest) → L.Holds R (part >> rest)
  then_do X R part rest h k = L.bind (λ (done : Unit {0}). X) R part (λ done. rest) h (λ done. k)

  module _ (S : Setting) (N : Node) (Told : List ℤ → Class → Type 0) where
    abbrev T : Turn → Type 0
    T = IsTurn S N Told L.Room

    -- a row's form is told
    abbrev pub ToldRow : Row → Type 0
    ToldRow r = L.Holds (Told r.constant) (S.class N.context (scope S N) r.constant)

    pub all_told : ((t : List ℤ) → L.Holds (Told t) (S.class N.context (scope S N) t)) → (rows : List Row) → AllByRecursion ToldRow rows
    all_told told [] = tt
    all_told told (r ∷ rows) = (told r.constant, all_told told rows)

    -- what is found in the rows from place i on
    abbrev pub Found : List Row → ℕ → Signs → Type 0
    Found rows i AllPlus = ⊥
    Found rows i (MinusAt j) = (k : ℕ) × (j ≡ i + k) × (k < length rows) × Told (row_at rows k).constant Minus
    Found rows i (UnknownBy c) = (k : ℕ) × (k < length rows) × Told (row_at rows k).constant (Unknown c)

    -- what was kept, or what is found
    abbrev pub Scanned : Signs → List Row → ℕ → Signs → Type 0
    Scanned kept rows i s = ((s ≡ kept) × (kept ≡ AllPlus → AllByRecursion (λ (r : Row). Told r.constant Plus) rows)) ⊎ Found rows i s

    later : (r : Row) (rows : List Row) (i : ℕ) (s : Signs) → Found rows (i + 1) s → Found (r ∷ rows) i s
    later r rows i AllPlus h = h
    later r rows i (MinusAt j) h = (suc h.0, omega (arith, h.1), omega (arith, h.2), h.3)
    later r rows i (UnknownBy c) h = (suc h.0, omega (arith, h.1), h.2)

    after_plus : (kept : Signs) (r : Row) (rows : List Row) (i : ℕ) → Told r.constant Plus → (s : Signs) → Scanned kept rows (i + 1) s → Scanned kept (r ∷ rows) i s
    after_plus kept r rows i t s (inl h) = inl (h.0, λ e. (t, h.1 e))
    after_plus kept r rows i t s (inr h) = inr (later r rows i s h)

    after_unknown : (kept : Signs) (d : List ℤ) (r : Row) (rows : List Row) (i : ℕ) → Told r.constant (Unknown d) → (s : Signs) → Scanned (keep kept d) rows (i + 1) s → Scanned kept (r ∷ rows) i s
    after_unknown kept d r rows i t s (inr h) = inr (later r rows i s h)
    after_unknown AllPlus d r rows i t s (inl h) = inr (subst (Found (r ∷ rows) i) (sym h.0) (0, omega arith, t))
    after_unknown _ d r rows i t s (inl h) = inl (h.0, λ e. cc)

    pub scan_law : (rows : List Row) (i : ℕ) (kept : Signs) → AllByRecursion ToldRow rows → L.Holds (Scanned kept rows i) (scan S N i kept rows)
    scan_law [] i kept h = L.gives (Scanned kept [] i) kept (inl (refl, λ e. tt))
    scan_law (r ∷ rows) i kept h = L.bind (Told r.constant) (Scanned kept (r ∷ rows) i) (S.class N.context (scope S N) r.constant) (λ c. scan_on c i kept (λ now. scan S N (i + 1) now rows)) h.0 (go (λ now. scan_law rows (i + 1) now h.1))
      where
        go : ((now : Signs) → L.Holds (Scanned now rows (i + 1)) (scan S N (i + 1) now rows)) → (c : Class) → Told r.constant c → L.Holds (Scanned kept (r ∷ rows) i) (scan_on c i kept (λ now. scan S N (i + 1) now rows))
        go rest Plus t = L.weakens (Scanned kept rows (i + 1)) (Scanned kept (r ∷ rows) i) (scan S N (i + 1) kept rows) (after_plus kept r rows i t) (rest kept)
        go rest Minus t = L.gives (Scanned kept (r ∷ rows) i) (MinusAt i) (inr (0, omega arith, omega arith, t))
        go rest (Unknown c) t = L.weakens (Scanned (keep kept c) rows (i + 1)) (Scanned kept (r ∷ rows) i) (scan S N (i + 1) (keep kept c) rows) (after_unknown kept c r rows i t) (rest (keep kept c))

    module _ (by_rows : AllByRecursion ToldRow N.rows)
        (by_rounding : (i q : ℕ) → S.integer ≡ true → i < length N.rows → find_from S.params N.quotients (residue_of (row_at N.rows i)) ≡ Some q
        → L.Holds (Told (rounding (scope S N) q (residue_of (row_at N.rows i)))) (S.class N.context (scope S N) (rounding (scope S N) q (residue_of (row_at N.rows i)))))
        (may_part : (r : ℕ) (c : List ℤ) → r < length N.rows → Told (row_at N.rows r).constant (Unknown c) → L.MayNest)
        (may_define : (i : ℕ) → S.integer ≡ true → i < length N.rows → is_whole (row_at N.rows i).den (coefficients (row_at N.rows i).constant) ≡ false → L.MayNest) where
      at_minus : (r : ℕ) → r < length N.rows → Told (row_at N.rows r).constant Minus → (o : Option ℕ) → entering N.rows r ≡ o → L.Holds T (pivot_turn S N r o)
      at_minus r l t None e = L.gives T (Closed Bottom) (bottom r l t e)
      at_minus r l t (Some c) e =
          let fit = listed (pivot_listed N.rows r c) in
          then_do (Unit {0}) T count_pivot (fit >> give _) L.pivots (λ p. then_do (all_fit (pivot_listed N.rows r c) ≡ true) T fit (give _) (L.lists (pivot_listed N.rows r c)) (λ f. L.gives T _ (pivoted r c l t e f)))

      at_unknown : (r : ℕ) (c : List ℤ) → r < length N.rows → Told (row_at N.rows r).constant (Unknown c) → L.Holds T (split_turn S N c)
      at_unknown r c l t =
          then_do (Unit {0}) T count_split (check_nesting (N.depth + 1) >> give _) (L.splits (may_part r c l t)) (λ p.
          then_do (L.Room (N.depth + 1)) T (check_nesting (N.depth + 1)) (give _) (L.nests (may_part r c l t) (N.depth + 1)) (λ room. L.gives T _ (parted r c l t room)))

      module _ (integer : S.integer ≡ true) (i : ℕ) (l : i < length N.rows) where
        abbrev R : Row
        R = row_at N.rows i

        at_known : (q : ℕ) → find_from S.params N.quotients (residue_of R) ≡ Some q → (c : Class) → Told (rounding (scope S N) q (residue_of R)) c → L.Holds T (known_cut N i R q c)
        at_known q e Plus t =
            then_do (all_fit (rounded_listed R q) ≡ true) T (listed (rounded_listed R q)) (give _) (L.lists (rounded_listed R q)) (λ f. L.gives T _ (rounds i q integer l e t f))
        at_known q e _ t = L.gives T (Again (record N { rows = N.rows ++ parametric_cut R q ∷ [] })) (cut_by i q integer l e)

        at_quotient : is_whole R.den (coefficients R.constant) ≡ false → (o : Option ℕ) → find_from S.params N.quotients (residue_of R) ≡ o → L.Holds T (quotient_cut S N i R o)
        at_quotient f (Some q) e =
            L.bind (Told _) T (S.class N.context (scope S N) _) (λ c. known_cut N i R q c) (by_rounding i q integer l e) (at_known q e)
        at_quotient f None e = then_do (L.Room (N.depth + 1)) T (check_nesting (N.depth + 1)) _ (L.nests (may_define i integer l f) (N.depth + 1)) (λ room. L.gives T _ (defines i integer l f room))

        at_fraction : L.Holds T (cut_turn S N i R)
        at_fraction =
            let one : Counted Turn = give (Again (record N { rows = N.rows ++ constant_cut R ∷ [] })) in
            let other : Counted Turn = quotient_cut S N i R (find_from S.params N.quotients (residue_of R)) in
            then_do (Unit {0}) T count_cut (if is_whole R.den (coefficients R.constant) then one else other) L.cuts (λ p.
            if_cases (λ (p : Counted Turn). L.Holds T p) (is_whole R.den (coefficients R.constant)) one other (λ e. L.gives T (Again (record N { rows = N.rows ++ constant_cut R ∷ [] })) (cut i integer l e)) (λ e. at_quotient e (find_from S.params N.quotients (residue_of R)) refl))

      at_last : AllByRecursion (λ (r : Row). Told r.constant Plus) N.rows → (t : Bool) → S.integer ≡ t → (o : Option ℕ) → (if t then first_fraction S.unknowns N.rows else None) ≡ o → L.Holds T (last_turn S N o)
      at_last plus true is None e = L.gives T (Closed (leaf S N)) (listing plus (λ i. e))
      at_last plus false is None e = L.gives T (Closed (leaf S N)) (listing plus (λ i. cc))
      at_last plus true is (Some i) e = let found = fraction_some 0 i (take S.unknowns N.rows) e in at_fraction is i (omega (arith, found.1, below_take S.unknowns found.0 N.rows found.2))
      at_last plus false is (Some i) e = cc

      by_signs : (s : Signs) → Scanned AllPlus N.rows 0 s → L.Holds T (turn_by S N s)
      by_signs AllPlus (inl h) = at_last (h.1 refl) S.integer refl (if S.integer then first_fraction S.unknowns N.rows else None) refl
      by_signs AllPlus (inr h) = absurd h
      by_signs (MinusAt j) (inr h) =
          subst (λ (k : ℕ). L.Holds T (turn_by S N (MinusAt k))) (omega (arith, h.1))
          (then_do (all_fit (entering_listed N.rows h.0) ≡ true) T (listed (entering_listed N.rows h.0)) (pivot_turn S N h.0 (entering N.rows h.0)) (L.lists (entering_listed N.rows h.0)) (λ f. at_minus h.0 h.2 h.3 (entering N.rows h.0) refl))
      by_signs (UnknownBy c) (inr h) = at_unknown h.0 c h.1 h.2
      by_signs _ (inl h) = let e = h.0 in cc

      -- a turn comes about in one of its ways
      pub turn_law : L.Holds T (turn S N)
      turn_law = L.bind (Scanned AllPlus N.rows 0) T (scan S N 0 AllPlus N.rows) (turn_by S N) (scan_law N.rows 0 AllPlus by_rows) by_signs

  -- ---- the run

  module _ (S : Setting) (Ok : Node → Type 0) (Q : Node → Tree → Type 0) (at_bottom : (N : Node) → Q N Bottom) (turns : (N : Node) → Ok N → L.Holds (Leads Ok Q N) (turn S N)) where
    run_law : (fuel : ℕ) (N : Node) (t : Turn) → Leads Ok Q N t → L.Holds (Q N) (run S fuel t)
    run_law fuel N (Closed t) h = L.gives (Q N) t h
    run_law (suc fuel) N (Again M) h = L.bind (Leads Ok Q M) (Q N) (turn S M) (λ next. run S fuel next) (turns M h.0) (λ next l. L.weakens (Q M) (Q N) (run S fuel next) h.1 (run_law fuel M next l))
    run_law (suc fuel) N (Below k M) h =
        L.bind (Leads Ok Q M) (Q N) (turn S M) (λ next. run S fuel next >>= λ t. give (NewParm k.form k.den t)) (turns M h.0) (λ next l.
        L.bind (Q M) (Q N) (run S fuel next) (λ t. give (NewParm k.form k.den t)) (run_law fuel M next l) (λ t q. L.gives (Q N) (NewParm k.form k.den t) (h.1 t q)))
    run_law (suc fuel) N (Split c K M) h =
        L.bind (Leads Ok Q K) (Q N) (turn S K) (λ first. run S fuel first >>= λ a. turn S M >>= λ second. run S fuel second >>= λ b. give (If c a b)) (turns K h.0) (λ first l.
        L.bind (Q K) (Q N) (run S fuel first) (λ a. turn S M >>= λ second. run S fuel second >>= λ b. give (If c a b)) (run_law fuel K first l) (λ a p.
        L.bind (Leads Ok Q M) (Q N) (turn S M) (λ second. run S fuel second >>= λ b. give (If c a b)) (turns M h.1) (λ second m.
        L.bind (Q M) (Q N) (run S fuel second) (λ b. give (If c a b)) (run_law fuel M second m) (λ b q. L.gives (Q N) (If c a b) (h.2 a b p q)))))
    run_law zero N _ h = L.gives (Q N) Bottom (at_bottom N)

    -- a run by so much fuel
    pub fuel_law : (fuel : ℕ) (N : Node) → Ok N → L.Holds (Q N) (turn S N >>= λ first. run S fuel first)
    fuel_law fuel N h = L.bind (Leads Ok Q N) (Q N) (turn S N) (λ first. run S fuel first) (turns N h) (λ first l. run_law fuel N first l)

  -- ---- points and classes

  -- a point, by the tree of its run
  pub point_law : (w : ℕ) (K : List (List ℤ)) (Q : Option (List ℤ) → Type 0) (T : Tree → Type 0) → L.Holds T (run_from (point_setting w) (root w 0 (map (widen_to w) K) [])) → ((t : Tree) → T t → Q (numbers_of t)) → (w ≡ 0 → K ≡ [] → Q (Some [])) → L.Holds Q (point w K)
  point_law w K Q T runs ends at_once = go w K at_once (L.bind T Q (run_from (point_setting w) (root w 0 (map (widen_to w) K) [])) (λ t. give (numbers_of t)) runs (λ t q. L.gives Q (numbers_of t) (ends t q)))
    where
      go : (w : ℕ) (K : List (List ℤ)) → (w ≡ 0 → K ≡ [] → Q (Some [])) → L.Holds Q (point_run w K) → L.Holds Q (point w K)
      go zero [] h k = L.gives Q (Some []) (h refl refl)
      go zero (c ∷ K) h k = k
      go (suc w) K h k = k

  -- what a class tells, by what a point of the context with the form or its opposite tells
  module _ (w : ℕ) (K : List (List ℤ)) (c : List ℤ) (P : List ℤ → Option (List ℤ) → Type 0) (Q : Class → Type 0)
      (over : L.Holds (P c) (point w (K ++ c ∷ []))) (under : L.Holds (P (opposite c)) (point w (K ++ opposite c ∷ [])))
      (none_under : P (opposite c) None → Q Plus) (none_over : P c None → Q Minus) (both_sides : (p q : List ℤ) → P (opposite c) (Some p) → P c (Some q) → Q (Unknown c)) where
    class_above_law : (p : List ℤ) → P (opposite c) (Some p) → (o : Option (List ℤ)) → P c o → L.Holds Q (class_above w K c o)
    class_above_law p u None h = L.gives Q Minus (none_over h)
    class_above_law p u (Some q) h = L.gives Q (Unknown c) (both_sides p q u h)

    class_below_law : (o : Option (List ℤ)) → P (opposite c) o → L.Holds Q (class_below w K c o)
    class_below_law None h = L.gives Q Plus (none_under h)
    class_below_law (Some p) h = L.bind (P c) Q (point w (K ++ c ∷ [])) (λ o. class_above w K c o) over (class_above_law p h)

    class_by_points_law : L.Holds Q (class_by_points w K c)
    class_by_points_law =
        then_do (all_fit (opposite_listed c) ≡ true) Q (listed (opposite_listed c)) _ (L.lists (opposite_listed c)) (λ f. L.bind (P (opposite c)) Q (point w (K ++ opposite c ∷ [])) (λ o. class_below w K c o) under class_below_law)

    pub class_law : (list_all is_nonneg c ≡ true → Q Plus) → ((list_all (λ z. not (is_positive z)) c && is_negative (constant c)) ≡ true → Q Minus) → L.Holds Q (class_of w K c)
    class_law plus minus =
        let signs = list_all (λ z. not (is_positive z)) c && is_negative (constant c) in
        if_cases (λ (p : Counted Class). L.Holds Q p) (list_all is_nonneg c) (give Plus) (if signs then give Minus else class_by_points w K c) (λ e. L.gives Q Plus (plus e))
        (λ e. if_cases (λ (p : Counted Class). L.Holds Q p) signs (give Minus) (class_by_points w K c) (λ f. L.gives Q Minus (minus f)) (λ f. class_by_points_law))

-- ---- logics

-- by what holds of values, where what refuses a point may refuse and MayNest is known where an if or a new parameter is counted
abbrev pub ends : (E : Refusal → Type 0) → E Overflow → ((n : ℕ) → E (Pivots n)) → ((n : ℕ) → E (Cuts n)) → (MayNest : Type 0) → (MayNest → (n : ℕ) → E (Splits n)) → (MayNest → (n : ℕ) → E (Nesting n)) → Logic
ends E o p c X s n = record {
  Holds = λ Q part. Ends E Q part;
  MayNest = X;
  Room = λ n. Unit {0};
  bind = λ Q R part f h k. ensures-bind Q R part f h k;
  gives = λ Q x h. ensures-give Q x h;
  weakens = λ Q R part f h. ensures-weaken Q R part f h;
  lists = ends-listed E o;
  pivots = record { ensures = λ w. counted E (nat_lt w.pivots w.budget.pivots) (record w { pivots = w.pivots + 1 }) w (Pivots w.budget.pivots) (p w.budget.pivots) };
  cuts = record { ensures = λ w. counted E (nat_lt w.cuts w.budget.cuts) (record w { cuts = w.cuts + 1 }) w (Cuts w.budget.cuts) (c w.budget.cuts) };
  splits = λ x. record { ensures = λ w. counted E (nat_lt w.splits w.budget.splits) (record w { splits = w.splits + 1 }) w (Splits w.budget.splits) (s x w.budget.splits) };
  nests = λ x m. record { ensures = λ w. counted E (nat_le m w.budget.nesting) w w (Nesting w.budget.nesting) (n x w.budget.nesting) };
}

-- of values alone
abbrev pub by_value : Logic
by_value = ends Free tt (λ n. tt) (λ n. tt) (Unit {0}) (λ x n. tt) (λ x n. tt)

-- of values, where the refusals are those of points: no if and no new parameter is made
abbrev pub by_points : Logic
by_points = ends IsPointRefusal tt (λ n. tt) (λ n. tt) ⊥ (λ x n. absurd x) (λ x n. absurd x)
