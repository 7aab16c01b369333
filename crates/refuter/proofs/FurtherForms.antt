-- The kept run of some forms with others behind them.
use Rattle.refuter.proofs.Words.{◌≡◌, ◌∙◌, refl, ap, ap₂, sym, subst, ℕ, zero, suc, ◌+◌, ◌<◌, ◌≤◌, arith, ℤ, List, [], ◌∷◌, ◌++◌, All, length, length-append, map, get_or, take, drop, Option, IfSome, map-append, length-map, length-take-le, take-append-drop, All-head, All-tail, IsContext, narrow_to, Refutation, constant, width, form-parts, widen_to, Row, form_row, Work, Outcome, Done, Refused, Refusal, go_on, Trace, refute, refute_from, first_trace, length_slice_set, node_of, replayed, form_rows, first_rows, IsRemembered, exchanged, exchanges, IsTraced, Remembered, passes_refusal}
use Rattle.std.specs.Prelude.{slice_index_or}
use Rattle.std.proofs.lemmas.List.Elements.{All-drop}
use Rattle.std.proofs.lemmas.List.{drop_more, map_more}
use Rattle.kept_run.proofs.OneFormMore.{rows-more}
use Rattle.refutation_steps.proofs.Tracing.{first-traced, refute_by_run}

pub length-form_rows : (n : ℕ) (M : List (List ℤ)) → length (form_rows n M) ≡ length M
length-form_rows n M = length-map (map (widen_to n) M) (form_row n) ∙ length-map M (widen_to n)

-- ---- exchanges

pub exchanges-rows : (rs cs : List ℕ) (T : Trace) → (exchanges rs cs T).rows ≡ T.rows
exchanges-rows (r ∷ rs) (c ∷ cs) T = exchanges-rows rs cs (exchanged T r c)
exchanges-rows _ _ T = refl

pub exchanges-columns : (rs cs : List ℕ) (T : Trace) → length (exchanges rs cs T).columns ≡ length T.columns
exchanges-columns (r ∷ rs) (c ∷ cs) T = exchanges-columns rs cs (exchanged T r c) ∙ length_slice_set T.columns c _
exchanges-columns _ _ T = refl

-- ---- the run

module _ (n : ℕ) (K M : List (List ℤ)) (m : Remembered) (is : IsRemembered n K m) (T : Trace) (w : Work) where
  abbrev from_end : List Row → Work → Outcome (Option Refutation)
  from_end now = refute_from m.run.end.unknowns (exchanges m.run.rows.items m.run.columns.items T) (node_of (m.run.end.rows ++ now))

  abbrev replay : Outcome (List Row)
  replay = replayed m.run.pivots.rows m.run.columns.items (form_rows m.run.end.unknowns M) w

  abbrev pub whole : Outcome (Option Refutation)
  whole = refute_from n T (node_of (first_rows n (K ++ M))) w

  behind : whole ≡ go_on replay from_end
  behind =
      ap (λ (rows : List Row). refute_from n T (node_of rows) w) (rows-more n K M)
      ∙ ap (λ (k : ℕ). refute_from k T (node_of (first_rows n K ++ form_rows k M)) w) (sym is.unknowns)
      ∙ is.replay.traced T (form_rows m.run.end.unknowns M) w

  pub behind-made : (now : List Row) (v : Work) → replay ≡ Done now v → whole ≡ from_end now v
  behind-made now v e = behind ∙ ap (λ (o : Outcome (List Row)). go_on o from_end) e

  pub behind-refused : (o : Option Refusal) (v : Work) → IfSome o (λ f. replay ≡ Refused f v) → IfSome o (λ f. whole ≡ Refused f v)
  behind-refused = passes_refusal replay from_end whole behind

  module _ (traced : IsTraced n (first_rows n (K ++ M)) T) where
    length-whole : length T.rows ≡ length (first_rows n K) + length M
    length-whole =
        traced.rows_traced ∙ ap length (rows-more n K M) ∙ length-append (first_rows n K) (form_rows n M)
        ∙ ap (λ k. length (first_rows n K) + k) (length-form_rows n M)

    pub row-within : (i : ℕ) → i < length m.run.columns.items → get_or m.run.rows.items i 0 < length T.rows
    row-within i h = omega (arith, is.replay.within i h, length-whole)

    pub column-within : (i : ℕ) → i < length m.run.columns.items → get_or m.run.columns.items i 0 < length T.columns
    column-within i h = omega (arith, (is.stopped.formed.each i h).column, is.unknowns, traced.columns_traced)

    pub traced-end : (now : List Row) → length now ≡ length M → IsTraced m.run.end.unknowns (m.run.end.rows ++ now) (exchanges m.run.rows.items m.run.columns.items T)
    traced-end now e = record {
      rows_traced = ap length (exchanges-rows m.run.rows.items m.run.columns.items T) ∙ length-whole ∙ omega (arith, e, is.replay.number, length-append m.run.end.rows now);
      columns_traced = exchanges-columns m.run.rows.items m.run.columns.items T ∙ traced.columns_traced ∙ sym is.unknowns;
    }

-- ---- known forms over their first places

narrow-length : (w : ℕ) (c : List ℤ) → w < length c → length (narrow_to w c) ≡ w + 1
narrow-length w c h = length-append (take w c) (constant c ∷ []) ∙ ap (λ k. k + 1) (length-take-le w c (omega (arith, h)))

pub narrow-context : (w i : ℕ) (forms : List (List ℤ)) → All (λ c. w < length c) forms → IsContext w (map (narrow_to w) (take i forms))
narrow-context w zero [] all = tt
narrow-context w zero (c ∷ forms) all = tt
narrow-context w (suc i) [] all = tt
narrow-context w (suc i) (c ∷ forms) all =
    let long = narrow-length w c (All-head (λ c. w < length c) c forms all) in
    (record { some = omega (arith, long); most = omega (arith, long) }, narrow-context w i forms (All-tail (λ c. w < length c) c forms all))

-- forms that are over no more places are the same
pub narrow-same : (w : ℕ) (forms : List (List ℤ)) → All (λ c. w < length c) forms → All (λ c. width c ≡ w) forms → map (narrow_to w) forms ≡ forms
narrow-same w [] long over = refl
narrow-same w (c ∷ forms) long over =
    let here : w < length c = All-head (λ c. w < length c) c forms long in
    let place : width c ≡ w = All-head (λ c. width c ≡ w) c forms over in
    let parts = form-parts w c (omega (arith, here, place)) in
    ap₂ (λ (x : List ℤ) (xs : List (List ℤ)). x ∷ xs) (ap (λ (n : ℕ). take n c ++ constant c ∷ []) (sym place) ∙ sym parts.0)
    (narrow-same w forms (All-tail (λ c. w < length c) c forms long) (All-tail (λ c. width c ≡ w) c forms over))

pub same-context : (w : ℕ) (forms : List (List ℤ)) → All (λ c. w < length c) forms → All (λ c. width c ≡ w) forms → IsContext w forms
same-context w [] long over = tt
same-context w (c ∷ forms) long over =
    let here : w < length c = All-head (λ c. w < length c) c forms long in
    let place : width c ≡ w = All-head (λ c. width c ≡ w) c forms over in
    (record { some = omega (arith, here); most = omega (arith, here, place) }, same-context w forms (All-tail (λ c. w < length c) c forms long) (All-tail (λ c. width c ≡ w) c forms over))

-- kept forms are those of the front, and the others come behind them
pub front-and-rest : (n i : ℕ) (known : List (List ℤ)) → map (narrow_to n) (take i known) ++ map (narrow_to n) (drop i known) ≡ map (narrow_to n) known
front-and-rest n i known =
    sym (map-append (narrow_to n) (take i known) (drop i known))
    ∙ ap (λ (X : List (List ℤ)). map (narrow_to n) X) (take-append-drop i known)

-- one form more
module _ (w j n : ℕ) (known forms : List (List ℤ)) (form : List ℤ) (lt : j < length known) (one : n ≡ 1) (is : forms ≡ map (narrow_to w) (take n (drop j known))) (at : form ≡ slice_index_or forms 0 form) where
  here : form ≡ narrow_to w (get_or known j [])
  here =
      let single : forms ≡ narrow_to w (get_or known j []) ∷ [] = is ∙ ap₂ (λ (i : ℕ) (X : List (List ℤ)). map (narrow_to w) (take i X)) one (drop_more known j [] lt) in
      at ∙ ap (λ (X : List (List ℤ)). slice_index_or X 0 form) single

  pub next-form : map (narrow_to w) (take (j + 1) known) ≡ map (narrow_to w) (take j known) ++ form ∷ []
  next-form = map_more (narrow_to w) known j [] lt ∙ ap (λ (x : List ℤ). map (narrow_to w) (take j known) ++ x ∷ []) (sym here)

  pub form-length : All (λ c. w < length c) known → length form ≡ w + 1
  form-length all =
      let wide : All (λ c. w < length c) (drop j known) = All-drop (λ c. w < length c) j known all in
      ap length here
      ∙ narrow-length w (get_or known j []) (All-head (λ c. w < length c) (get_or known j []) (drop (j + 1) known) (subst (All (λ c. w < length c)) (drop_more known j [] lt) wide))

-- the run of the first of known forms, with the others behind them
module _ (w i : ℕ) (known M : List (List ℤ)) (m : Remembered) (is : IsRemembered w (map (narrow_to w) (take i known)) m) (rest : M ≡ map (narrow_to w) (drop i known)) (T : Trace) (v : Work) where
  abbrev K : List (List ℤ)
  K = map (narrow_to w) (take i known)

  joined : K ++ M ≡ map (narrow_to w) known
  joined = ap (λ (X : List (List ℤ)). K ++ X) rest ∙ front-and-rest w i known

  abbrev pub whole-run : Outcome (Option Refutation)
  whole-run = refute_from w T (node_of (first_rows w (map (narrow_to w) known))) v

  same-run : whole-run ≡ whole w K M m is T v
  same-run = ap (λ (X : List (List ℤ)). refute_from w T (node_of (first_rows w X)) v) (sym joined)

  module _ (traced : IsTraced w (first_rows w (map (narrow_to w) known)) T) where
    traced-parts : IsTraced w (first_rows w (K ++ M)) T
    traced-parts = subst (λ (X : List (List ℤ)). IsTraced w (first_rows w X) T) (sym joined) traced

    pub known-row : (j : ℕ) → j < length m.run.columns.items → get_or m.run.rows.items j 0 < length T.rows
    known-row = row-within w K M m is T v traced-parts

    pub known-column : (j : ℕ) → j < length m.run.columns.items → get_or m.run.columns.items j 0 < length T.columns
    known-column = column-within w K M m is T v traced-parts

    pub known-traced : (now : List Row) → length now ≡ length M
        → IsTraced m.run.end.unknowns (m.run.end.rows ++ now) (exchanges m.run.rows.items m.run.columns.items T)
    known-traced now e = traced-end w K M m is T v traced-parts now e

  abbrev made-behind : Outcome (List Row)
  made-behind = replayed m.run.pivots.rows m.run.columns.items (form_rows m.run.end.unknowns M) v

  pub known-made : (now : List Row) (u : Work) → made-behind ≡ Done now u
      → whole-run ≡ refute_from m.run.end.unknowns (exchanges m.run.rows.items m.run.columns.items T) (node_of (m.run.end.rows ++ now)) u
  known-made now u e = same-run ∙ behind-made w K M m is T v now u e

  pub known-refused : (o : Option Refusal) (u : Work) → IfSome o (λ f. made-behind ≡ Refused f u) → IfSome o (λ f. whole-run ≡ Refused f u)
  known-refused o u h = subst (λ (X : Outcome (Option Refutation)). IfSome o (λ f. X ≡ Refused f u)) (sym same-run) (behind-refused w K M m is T v o u h)

module _ (places : List ℤ) (known : List (List ℤ)) (first : ℤ) (w : ℕ) (T : Trace) (wide : w ≡ length places) (trace : T ≡ first_trace places (length known) first) where
  abbrev n : ℕ
  n = length places

  abbrev forms : List (List ℤ)
  forms = map (narrow_to n) known

  whole-trace : T ≡ first_trace places (length forms) first
  whole-trace = trace ∙ ap (λ j. first_trace places j first) (sym (length-map known (narrow_to n)))

  pub kept-traced : IsTraced w (first_rows w (map (narrow_to w) known)) T
  kept-traced =
      subst (λ (v : ℕ). IsTraced v (first_rows v (map (narrow_to v) known)) T) (sym wide)
      (first-traced forms places first (record { unknowns = n; width = 0; rows = first_rows n forms }) T refl whole-trace)

  pub kept-run : (v : Work) → 1 ≤ length known → refute_from w T (node_of (first_rows w (map (narrow_to w) known))) v ≡ refute n forms places first v
  kept-run v some =
      ap (λ j. refute_from j T (node_of (first_rows j (map (narrow_to j) known))) v) wide
      ∙ ap (λ (U : Trace). refute_from n U (node_of (first_rows n forms)) v) whole-trace
      ∙ sym (refute_by_run n forms places first v (λ z e. absurd (omega (arith, some, ap length e, length-map known (narrow_to n)))))
