-- A refutation that is made succeeds, where no whole vector makes its known forms >= 0.
use Rattle.certificate_laws.proofs.Words.{◌≡◌, refl, ap, ap₂, sym, subst, ◌∙◌, ℕ, zero, suc, ◌+◌, ◌<◌, ◌≤◌, arith, Option, Some, None, List, [], ◌∷◌, ◌++◌, append_assoc, length, length-append, true, ℤ, pos, get_or-append, get_or-append_seam, get_or-append-add, get_or-map, map, slice_index_or, entry, unit_form, widen_to, Problem, Refutation, LeafCase, places_from, Premises, named, known_at_end, all_fit, Work, Refusal, Outcome, Done, Refused, ◌>>=◌, give, listed, point, indices, refute, PathQuotient, quotient_steps, narrow_to, steps_or_none, made_refutation, every-append, OnDone, Ensures, OnMade, Makes, ensures-bind, ensures-give, ends-listed, Narrow, InScope, IsPointOf, point_right, length_map, IfSteps, IsRefutedPoint, refute-same, length-places, every-kept}
use Rattle.pip_model.specs.Contexts.{IsPointRefusal}
use Rattle.run_laws.proofs.ContextRight.{context_of}
use Rattle.run_laws.proofs.PointRefusals.{point-refusal}
use Rattle.certificate_laws.proofs.Deriving.{Names, GoodSteps, Refutes, refutes-append, front_at_end}
use Rattle.certificate_laws.proofs.Totals.{AllWide, AllNamed, entries_at, entries-more, entries-append, all_named_more}
use Rattle.certificate_laws.proofs.Tracing.{one_at}
use Rattle.certificate_laws.proofs.FirstTrace.{units_from, units-append, Within, AllWithin, length_narrow, indices_named, Starts, refute_right}
use Rattle.certificate_laws.proofs.LeafFacts.{AllQuotients}
use Rattle.certificate_laws.proofs.QuotientSteps.{entry-unit_form, Places, Stands, quotient_steps_good, length-quotient_steps}
use Rattle.pip_model.proofs.RingLaws.{one-*ℤ}

-- ---- places among the known forms

places_entries : (known pre post : List (List ℤ)) (W i n first j : ℕ) → known ≡ pre ++ (places_from W i n ++ post) → length pre ≡ first → entries_at known j (indices first n) ≡ units_from i n j
places_entries known pre post W i zero first j is e = refl
places_entries known pre post W i (suc n) first j is e =
    let c = unit_form W i (pos 1) in
    let rest = places_from W (i + 1) n ++ post in
    let here : named known (pos first) ≡ c = ap (λ (k : List (List ℤ)). named k (pos first)) is ∙ ap (λ (n : ℕ). named (pre ++ (c ∷ rest)) (pos n)) (sym e) ∙ get_or-append_seam pre c rest [] in
    let next : known ≡ (pre ++ c ∷ []) ++ rest = is ∙ sym (append_assoc pre (c ∷ []) rest) in
    ap₂ (λ (x : ℤ) (xs : List ℤ). x ∷ xs) (ap (λ (x : List ℤ). entry x j) here ∙ entry-unit_form W i (pos 1) j ∙ one-*ℤ (one_at i j))
    (places_entries known (pre ++ c ∷ []) post W (i + 1) n (first + 1) j next (length-append pre (c ∷ []) ∙ omega (arith, e)))

length_indices : (i n : ℕ) → length (indices i n) ≡ n
length_indices i zero = refl
length_indices i (suc n) = ap suc (length_indices (i + 1) n)

all_wide : (w W : ℕ) (known : List (List ℤ)) → AllWithin w W known → AllWide W known
all_wide w W known h = every-kept (Within w W) (λ (c : List ℤ). length c ≡ suc W) known (λ c within. within.0) h

pub narrow_context : (w W : ℕ) (known : List (List ℤ)) → w ≤ W → AllWithin w W known → Narrow w (map (narrow_to w) known)
narrow_context w W [] l h = tt
narrow_context w W (c ∷ known) l h =
    let e = length_narrow w W c l h.0.0 in
    (omega (arith, e), omega (arith, e), narrow_context w W known l h.1)

-- ---- the known forms of a refutation, over W places, of which the first are the leaf's scope and n unknowns

pub record IsPremises (P : Problem) (L : LeafCase) (ks : List PathQuotient) (n W : ℕ) (known : List (List ℤ)) : Type 0 where
  pub narrow : L.scope + n ≤ W
  pub within : AllWithin (L.scope + n) W known
  pub rest : List (List ℤ)
  pub is : known ≡ ((places_from W 0 P.params ++ map (widen_to W) P.context) ++ map (widen_to W) L.path) ++ (places_from W L.scope n ++ rest)
  pub scope : L.scope ≡ P.params + length ks
  pub quotients : AllQuotients L.path P.params ks

module _ (P : Problem) (L : LeafCase) (ks : List PathQuotient) (n W : ℕ) (s : Premises) (from : IsPremises P L ks n W s.known) where
  abbrev m : ℕ
  m = P.params

  abbrev w : ℕ
  w = L.scope + n

  abbrev known : List (List ℤ)
  known = s.known

  abbrev count : ℕ
  count = length known

  abbrev front : ℕ
  front = m + length P.context

  abbrev first : Refutation
  first = quotient_steps front count (indices 0 m) ks

  abbrev now : List (List ℤ)
  now = known_at_end W known first

  abbrev A : List (List ℤ)
  A = places_from W 0 m

  abbrev B : List (List ℤ)
  B = map (widen_to W) P.context

  abbrev C : List (List ℤ)
  C = map (widen_to W) L.path

  abbrev D : List (List ℤ)
  D = places_from W L.scope n ++ from.rest

  front_long : length (A ++ B) ≡ front
  front_long = length-append A B ∙ ap₂ (λ (i j : ℕ). i + j) (length-places W 0 m) (length_map (widen_to W) P.context)

  path_long : length ((A ++ B) ++ C) ≡ front + length L.path
  path_long = length-append (A ++ B) C ∙ ap₂ (λ (i j : ℕ). i + j) front_long (length_map (widen_to W) L.path)

  pub known_long : count ≡ front + length L.path + (n + length from.rest)
  known_long = ap length from.is ∙ length-append ((A ++ B) ++ C) D ∙ ap₂ (λ (i j : ℕ). i + j) path_long (length-append (places_from W L.scope n) from.rest ∙ ap (λ (i : ℕ). i + length from.rest) (length-places W L.scope n))

  parameters : Places W known m (indices 0 m)
  parameters = record {
    wide = all_wide w W known from.within;
    long = length_indices 0 m;
    named = indices_named known 0 m (omega (arith, known_long));
    units = λ j h. places_entries known [] (B ++ (C ++ D)) W 0 m 0 j (from.is ∙ append_assoc (A ++ B) C D ∙ append_assoc A B (C ++ D)) refl;
  }

  stands : Stands W front L.path known
  stands = record {
    inside = omega (arith, known_long);
    at = λ b below.
        let few : b < length C = omega (arith, below, length_map (widen_to W) L.path) in
        ap (λ (k : List (List ℤ)). slice_index_or k (front + b) []) (from.is ∙ append_assoc (A ++ B) C D)
        ∙ ap (λ (i : ℕ). slice_index_or ((A ++ B) ++ (C ++ D)) (i + b) []) (sym front_long)
        ∙ get_or-append-add (A ++ B) (C ++ D) b [] ∙ get_or-append C D [] b few ∙ get_or-map (widen_to W) L.path b [] [] below;
  }

  made : GoodSteps W known first × Places W now (m + length ks) (indices 0 m ++ indices count (length ks))
  made = quotient_steps_good W front m count L.path known (indices 0 m) ks parameters stands from.quotients (omega (arith, from.narrow, from.scope)) refl

  abbrev places : List ℤ
  places = indices 0 m ++ indices count (length ks) ++ indices (front + length L.path) n

  unknowns_named : AllNamed known (indices (front + length L.path) n)
  unknowns_named = indices_named known (front + length L.path) n (omega (arith, known_long))

  pub now_long : length now ≡ count + length ks
  now_long =
      let more = front_at_end W known first in
      ap length more.1 ∙ length-append known more.0 ∙ ap (λ (i : ℕ). count + i) (more.2 ∙ length-quotient_steps front count (indices 0 m) ks)

  starts : Starts w W now known places
  starts =
      let more = front_at_end W known first in
      let before = indices 0 m ++ indices count (length ks) in
      let unknowns = indices (front + length L.path) n in
      let scope : m + length ks ≡ L.scope = sym from.scope in
      record {
        narrow = from.narrow;
        wide = made.1.wide;
        within = from.within;
        more = more.0;
        is = more.1;
        places_long = length-append before unknowns ∙ ap₂ (λ (i j : ℕ). i + j) (made.1.long ∙ scope) (length_indices (front + length L.path) n);
        places_named = every-append (Names now) before unknowns made.1.named (subst (λ (k : List (List ℤ)). AllNamed k unknowns) (sym more.1) (all_named_more known more.0 unknowns unknowns_named));
        units = λ j h.
            let front_units : entries_at now j before ≡ units_from 0 (m + length ks) j = made.1.units j h in
            let back_units : entries_at now j unknowns ≡ units_from L.scope n j = ap (λ (k : List (List ℤ)). entries_at k j unknowns) more.1 ∙ entries-more known more.0 j unknowns unknowns_named
            ∙ places_entries known ((A ++ B) ++ C) from.rest W L.scope n (front + length L.path) j from.is path_long in
            let at : L.scope ≡ 0 + (m + length ks) = omega (arith, scope) in
            entries-append now j before unknowns ∙ ap₂ (λ (us vs : List ℤ). us ++ vs) front_units (back_units ∙ ap (λ (i : ℕ). units_from i n j) at)
            ∙ units-append 0 (m + length ks) n j ∙ ap (λ (i : ℕ). units_from 0 (i + n) j) scope;
      }

  abbrev K : List (List ℤ)
  K = map (narrow_to w) known

  abbrev IsMade : Option Refutation → Type 0
  IsMade None = ⊥
  IsMade (Some ss) = Refutes W now ss

  -- no vector satisfies the context
  module _ (none : (u : List ℤ) → InScope w K u → ⊥) where
    made_of : (o : Outcome (Option (List ℤ))) (r : Outcome (Option Refutation)) → IsRefutedPoint o r → OnDone (IsPointOf w K) o → ((e : Refusal) (v : Work) → o ≡ Refused e v → IsPointRefusal e) → OnDone (IfSteps (Refutes W now)) r → OnMade IsMade r
    made_of (Done (Some p) x) (Done None y) same h g k = absurd (none p h)
    made_of (Done None x) (Done (Some ss) y) same h g k = k
    made_of (Refused e x) (Refused f y) same h g k = subst IsPointRefusal same.0 (g e x refl)
    made_of _ _ same h g k = absurd same

    refuted : Makes IsMade (refute w K places (pos (count + length ks)))
    refuted =
        let narrow = narrow_context w W known from.narrow from.within in
        let right : Ensures (IfSteps (Refutes W now)) (refute w K places (pos (count + length ks))) = subst (λ (i : ℕ). Ensures (IfSteps (Refutes W now)) (refute w K places (pos i))) now_long (refute_right w W now known places starts) in
        record {
          ensures = λ v. made_of (point w K v) (refute w K places (pos (count + length ks)) v) (refute-same w K places (pos (count + length ks)) v narrow) ((point_right w K narrow).ensures v)
              (λ e u is. point-refusal w K e v u (context_of w K narrow) is) (right.ensures v);
        }

    with_first : (o : Option Refutation) → IsMade o → Refutes W known (first ++ steps_or_none o)
    with_first None h = absurd h
    with_first (Some ss) h = refutes-append W known first ss made.0 h

    -- the refutation that is made succeeds from the known forms
    pub made_refutes : Makes (Refutes W known) (made_refutation P L ks n s)
    made_refutes =
        ensures-bind (λ (done : Unit {0}). all_fit s.listed ≡ true) (Refutes W known) (listed s.listed) (λ done. refute w K places (pos (count + length ks)) >>= λ found. give (first ++ steps_or_none found)) (ends-listed IsPointRefusal tt s.listed)
        (λ done fit. ensures-bind IsMade (Refutes W known) (refute w K places (pos (count + length ks))) (λ found. give (first ++ steps_or_none found)) refuted
        (λ found h. ensures-give (Refutes W known) (first ++ steps_or_none found) (with_first found h)))
