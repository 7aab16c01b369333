-- The run of a problem without parameters, in integer mode, is that of a point of its rows: no form of a context is
-- looked at.
use Rattle.std.proofs.Common.{◌≡◌, ◌∙◌, ap, subst, refl, ℕ, suc, ◌+◌, ◌<◌, arith, Bool, true, false, List, [], ◌∷◌, ◌++◌, length, ℤ, pos, negsuc, Option, Some, None}
use Rattle.std.specs.Prelude.{take, neg_ℤ, if◌then◌else◌}
use Rattle.std.proofs.lemmas.List.{length-map, length-take}
use Rattle.pip_model.specs.Numbers.{is_nonneg, floor_mod}
use Rattle.pip_model.specs.Forms.{constant}
use Rattle.pip_model.specs.Rows.{Row, row_at, pivot, pivot_listed, entering, entering_listed, first_fraction, fraction_from, is_whole}
use Rattle.pip_model.specs.Cuts.{constant_cut, residue_of}
use Rattle.pip_model.specs.Run.{Work, Outcome, Done, Refused, Counted, go_on, give, listed, count_pivot, count_cut, Plus, Minus, Node, Turn, Closed, Again, Below, Split, Signs, AllPlus, MinusAt, UnknownBy, scope, scan, scan_on, turn, turn_by, pivot_turn, last_turn, run, run_from, left, class, constant_class}
use Rattle.plain_laws.specs.Plain.{problem_setting, plain_setting, node_over}
use Rattle.pip_model.proofs.Forms.{no_coefficients}
use Rattle.run_laws.proofs.RowsAt.{FormsWide, wide_form_at, forms_more, forms_pivot}
use Rattle.run_laws.proofs.Lengths.{length_floors}

-- a form without coefficients is classed by its constant
pub plain_class : (K : List (List ℤ)) (w : ℕ) (t : List ℤ) → length t ≡ 1 → (v : Work) → class K w t v ≡ constant_class K w t v
plain_class K w (pos n ∷ []) e v = refl
plain_class K w (negsuc n ∷ []) e v = refl
plain_class K w _ e v = absurd (omega arith)

-- ---- the scan

scan_plain : (n : ℕ) (b : Bool) (N M : Node) (i : ℕ) (kept : Signs) (rows : List Row) → FormsWide 1 rows → (w : Work)
    → scan (problem_setting n b) N i kept rows w ≡ scan (plain_setting n b) M i kept rows w
scan_plain n b N M i kept [] all w = refl
scan_plain n b N M i kept (r ∷ rs) all w = rw (plain_class N.context (scope (problem_setting n b) N) r.constant all.0 w) (by (is_nonneg (constant r.constant)) (scan_plain n b N M (i + 1) kept rs all.1 w))
  where
    by : (t : Bool) → scan (problem_setting n b) N (i + 1) kept rs w ≡ scan (plain_setting n b) M (i + 1) kept rs w → scan_on (if t then Plus else Minus) i kept (λ now. scan (problem_setting n b) N (i + 1) now rs) w
        ≡ scan_on (if t then Plus else Minus) i kept (λ now. scan (plain_setting n b) M (i + 1) now rs) w
    by true e = e
    by false e = refl

abbrev pub first_minus : ℕ → List Row → Signs
first_minus i [] = AllPlus
first_minus i (r ∷ rs) = if is_nonneg (constant r.constant) then first_minus (i + 1) rs else MinusAt i

pub scan_is : (n : ℕ) (b : Bool) (N : Node) (i : ℕ) (rows : List Row) (w : Work) → scan (plain_setting n b) N i AllPlus rows w ≡ Done (first_minus i rows) w
scan_is n b N i [] w = refl
scan_is n b N i (r ∷ rs) w = by (is_nonneg (constant r.constant)) (scan_is n b N (i + 1) rs w)
  where
    by : (t : Bool) → scan (plain_setting n b) N (i + 1) AllPlus rs w ≡ Done (first_minus (i + 1) rs) w
        → scan_on (if t then Plus else Minus) i AllPlus (λ now. scan (plain_setting n b) N (i + 1) now rs) w ≡ Done (if t then first_minus (i + 1) rs else MinusAt i) w
    by true e = e
    by false e = refl

abbrev Within : ℕ → Signs → Type 0
Within k AllPlus = Unit {0}
Within k (MinusAt r) = r < k
Within k (UnknownBy c) = ⊥

within : (i : ℕ) (rows : List Row) → Within (i + length rows) (first_minus i rows)
within i [] = tt
within i (r ∷ rs) = by (is_nonneg (constant r.constant)) (within (i + 1) rs)
  where
    by : (t : Bool) → Within ((i + 1) + length rs) (first_minus (i + 1) rs) → Within (i + suc (length rs)) (if t then first_minus (i + 1) rs else MinusAt i)
    by true h = subst (λ (k : ℕ). Within k (first_minus (i + 1) rs)) (omega arith) h
    by false h = omega arith

-- ---- a turn

abbrev FoundWithin : ℕ → Option ℕ → Type 0
FoundWithin k None = Unit {0}
FoundWithin k (Some i) = i < k

found : (i : ℕ) (rows : List Row) → FoundWithin (i + length rows) (fraction_from i rows)
found i [] = tt
found i (r ∷ rs) = by (is_whole r.den r.constant) (found (i + 1) rs)
  where
    by : (t : Bool) → FoundWithin ((i + 1) + length rs) (fraction_from (i + 1) rs) → FoundWithin (i + suc (length rs)) (if t then fraction_from (i + 1) rs else Some i)
    by true h = subst (λ (k : ℕ). FoundWithin k (fraction_from (i + 1) rs)) (omega arith) h
    by false h = omega arith

fraction_within : (n : ℕ) (rows : List Row) → FoundWithin (length rows) (first_fraction n rows)
fraction_within n rows = by (first_fraction n rows) (subst (λ (k : ℕ). FoundWithin k (first_fraction n rows)) (omega arith) (found 0 (take n rows)))
  where
    by : (o : Option ℕ) → FoundWithin (length (take n rows)) o → FoundWithin (length rows) o
    by None h = tt
    by (Some i) h = omega (arith, h, length-take n rows)

-- a turn that ends, or goes on with rows alone
abbrev pub IsPlain : Turn → Type 0
IsPlain (Closed t) = Unit {0}
IsPlain (Again N) = (rows : List Row) × (N ≡ node_over [] rows) × FormsWide 1 rows
IsPlain (Below k N) = ⊥
IsPlain (Split c N M) = ⊥

-- the same turn over a context
abbrev pub turn_over : List (List ℤ) → Turn → Turn
turn_over K (Closed t) = Closed t
turn_over K (Again N) = Again (record N { context = K })
turn_over K (Below k N) = Below k (record N { context = K })
turn_over K (Split c N M) = Split c (record N { context = K }) (record M { context = K })

abbrev pub Matches : List (List ℤ) → Outcome Turn → Outcome Turn → Type 0
Matches K (Done T v) (Done U u) = (T ≡ turn_over K U) × (v ≡ u) × IsPlain U
Matches K (Refused e v) (Refused f u) = (e ≡ f) × (v ≡ u)
Matches K _ _ = ⊥

matches_after : (K : List (List ℤ)) (o : Outcome (Unit {0})) (f g : Counted Turn) → ((v : Work) → Matches K (f v) (g v)) → Matches K (go_on o (λ done. f)) (go_on o (λ done. g))
matches_after K (Done x v) f g h = h v
matches_after K (Refused e v) f g h = (refl, refl)

length_cut : (r : Row) → length r.constant ≡ 1 → length (constant_cut r).constant ≡ 1
length_cut r e = length_floors _ _ ∙ length-map (residue_of r).form (λ (x : ℤ). neg_ℤ x) ∙ length-map r.constant (λ (x : ℤ). floor_mod (neg_ℤ x) r.den) ∙ e

module _ (n : ℕ) (b : Bool) (K : List (List ℤ)) (rows : List Row) (wide : FormsWide 1 rows) where
  again : (now : List Row) → FormsWide 1 now → (v : Work) → Matches K (give (Again (node_over K now)) v) (give (Again (node_over [] now)) v)
  again now h v = (refl, refl, (now, refl, h))

  entered : (r : ℕ) → r < length rows → (c : Option ℕ) (w : Work) → Matches K (pivot_turn (problem_setting n b) (node_over K rows) r c w) (pivot_turn (plain_setting n b) (node_over [] rows) r c w)
  entered r h None w = (refl, refl, tt)
  entered r h (Some c) w = matches_after K (count_pivot w) _ _ (λ v. matches_after K (listed (pivot_listed rows r c) v) _ _ (λ u. again (pivot rows r c) (forms_pivot 0 rows r c h wide) u))

  last : (o : Option ℕ) → FoundWithin (length rows) o → (w : Work) → Matches K (last_turn (problem_setting n b) (node_over K rows) o w) (last_turn (plain_setting n b) (node_over [] rows) o w)
  last None h w = (refl, refl, tt)
  last (Some i) h w =
      let R = row_at rows i in
      let one = wide_form_at 1 rows i h wide in
      rw (no_coefficients R.den R.constant one) (matches_after K (count_cut w) _ _ (λ v. again (rows ++ constant_cut R ∷ []) (forms_more 1 rows (constant_cut R) wide (length_cut R one)) v))

  by_signs : (s : Signs) → Within (length rows) s → (w : Work) → Matches K (turn_by (problem_setting n b) (node_over K rows) s w) (turn_by (plain_setting n b) (node_over [] rows) s w)
  by_signs AllPlus h w = ended b (fraction_within n rows)
    where
      ended : (t : Bool) → FoundWithin (length rows) (first_fraction n rows) → Matches K (last_turn (problem_setting n b) (node_over K rows) (if t then first_fraction n rows else None) w) (last_turn (plain_setting n b) (node_over [] rows) (if t then first_fraction n rows else None) w)
      ended true h = last (first_fraction n rows) h w
      ended false h = last None tt w
  by_signs (MinusAt r) h w = matches_after K (listed (entering_listed rows r) w) _ _ (λ v. entered r h (entering rows r) v)
  by_signs (UnknownBy c) h w = absurd h

  pub turn_matches : (w : Work) → Matches K (turn (problem_setting n b) (node_over K rows) w) (turn (plain_setting n b) (node_over [] rows) w)
  turn_matches w = rw (scan_plain n b (node_over K rows) (node_over [] rows) 0 AllPlus rows wide w, scan_is n b (node_over [] rows) 0 rows w) (by_signs (first_minus 0 rows) (subst (λ (k : ℕ). Within k (first_minus 0 rows)) (omega arith) (within 0 rows)) w)

-- ---- the run

goes_on : (n : ℕ) (b : Bool) (K : List (List ℤ)) (fuel : ℕ) → ((T : Turn) → IsPlain T → (w : Work) → run (problem_setting n b) fuel (turn_over K T) w ≡ run (plain_setting n b) fuel T w)
    → (o p : Outcome Turn) → Matches K o p → go_on o (λ next. run (problem_setting n b) fuel next) ≡ go_on p (λ next. run (plain_setting n b) fuel next)
goes_on n b K fuel same (Done T v) (Done U u) m = rw (m.0, m.1) (same U m.2 u)
goes_on n b K fuel same (Refused e v) (Refused f u) m = rw (m.0, m.1) refl
goes_on n b K fuel same _ _ m = absurd m

run_plain : (n : ℕ) (b : Bool) (K : List (List ℤ)) (fuel : ℕ) (T : Turn) → IsPlain T → (w : Work) → run (problem_setting n b) fuel (turn_over K T) w ≡ run (plain_setting n b) fuel T w
run_plain n b K (suc fuel) (Again N) h w = rw (h.1) (goes_on n b K fuel (run_plain n b K fuel) _ _ (turn_matches n b K h.0 h.2 w))
run_plain n b K fuel (Below k N) h w = absurd h
run_plain n b K fuel (Split c N M) h w = absurd h
run_plain n b K _ _ h w = refl

-- from its first node
pub plain_run : (n : ℕ) (b : Bool) (K : List (List ℤ)) (rows : List Row) → FormsWide 1 rows → (w : Work) → run_from (problem_setting n b) (node_over K rows) w ≡ run_from (plain_setting n b) (node_over [] rows) w
plain_run n b K rows wide w = goes_on n b K (left w) (run_plain n b K (left w)) _ _ (turn_matches n b K rows wide w)

-- a turn, by the first row below 0
pub plain_turn_is : (n : ℕ) (b : Bool) (rows : List Row) (w : Work) → turn (plain_setting n b) (node_over [] rows) w ≡ turn_by (plain_setting n b) (node_over [] rows) (first_minus 0 rows) w
plain_turn_is n b rows w = ap (λ o. go_on o (λ signs. turn_by (plain_setting n b) (node_over [] rows) signs)) (scan_is n b (node_over [] rows) 0 rows w)
