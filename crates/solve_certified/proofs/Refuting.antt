-- One refutation: by its known forms, and as the definition makes it.
use Rattle.solve_certified.proofs.Words.{◌≡◌, ap, ap₂, sym, ◌∙◌, ℕ, ◌+◌, ◌<◌, ◌≤◌, ℤ, All, Bool, true, pos, List, [], ◌++◌, length, map, length-append, arith, Option, Some, None, IfSome, IsTrue, All-weaker, all_fit, Problem, Component, Refutation, LeafCase, Premises, joined, leaf_forms, scope_forms, Work, Outcome, Done, Refused, Refusal, Overflow, Counted, go_on, ◌>>=◌, give, unless, indices, refute, PathQuotient, narrow_to, quotient_steps, steps_or_none, made_refutation, steps_from, places_of, refuted_by, IsScopeOf}
use Rattle.solve_certified.specs.declared.refutation.Scope.{Scope}
use Rattle.solve_certified.proofs.QuotientLists.{length-indices, steps_same}

-- ---- by the known forms

-- forms over k places, of which there are no fewer than w
pub all-longer : (k w : ℕ) → w ≤ k → (known : List (List ℤ)) → All (λ c. length c ≡ k + 1) known → All (λ c. w < length c) known
all-longer k w h known all = All-weaker (λ c. length c ≡ k + 1) (λ c. w < length c) (λ c e. omega (arith, h, e)) known all

module _ (s : Scope) (n : ℕ) (known : List (List ℤ)) where
  abbrev pub ks : List PathQuotient
  ks = s.quotients.now

  abbrev pub places : List ℤ
  places = places_of s (length known) n

  pub length-places : length places ≡ s.params + length ks + n
  length-places =
      let parameters = indices 0 s.params in
      let quotients = indices (length known) (length ks) in
      let unknowns = indices s.own n in
      let whole : length (parameters ++ quotients ++ unknowns) ≡ length (parameters ++ quotients) + length unknowns = length-append (parameters ++ quotients) unknowns in
      let front : length (parameters ++ quotients) ≡ length parameters + length quotients = length-append parameters quotients in
      omega (arith, length-indices 0 s.params, length-indices (length known) (length ks), length-indices s.own n)

  pub steps_are : steps_from s.front s.params places ks ≡ quotient_steps s.front (length known) (indices 0 s.params) ks
  steps_are =
      ap (λ (m : ℕ). steps_from s.front m places ks) (sym (length-indices 0 s.params))
      ∙ steps_same s.front (length known) (indices 0 s.params) (indices s.own n) ks

  -- the run over as many places as there are indices
  abbrev pub run_over : ℕ → Counted (Option Refutation)
  run_over w = refute w (map (narrow_to w) known) places (pos (length known + length ks))

  abbrev steps_with : Option Refutation → Counted Refutation
  steps_with found = give (quotient_steps s.front (length known) (indices 0 s.params) ks ++ steps_or_none found)

  by_run : (w : Work) → refuted_by s n known w ≡ go_on (run_over (length places) w) steps_with
  by_run w = ap (λ (k : ℕ). go_on (run_over k w) steps_with) (sym length-places)

  -- the run over a context of so many places, with the indices of the places and of the first step
  module _ (w v : ℕ) (K : List (List ℤ)) (ps : List ℤ) (f : ℤ) (same : w ≡ v) (wide : v ≡ length ps) (forms : K ≡ map (narrow_to v) known) (at : ps ≡ places) (first : f ≡ pos (length known + length ks)) where
    run_is : (u : Work) → refute w K ps f u ≡ run_over (length places) u
    run_is u =
        ap (λ (m : ℕ). refute m K ps f u) same
        ∙ ap (λ (X : List (List ℤ)). refute v X ps f u) forms
        ∙ ap (λ (X : List ℤ). refute v (map (narrow_to v) known) X f u) at
        ∙ ap (λ (x : ℤ). refute v (map (narrow_to v) known) places x u) first
        ∙ ap (λ (m : ℕ). run_over m u) (wide ∙ ap length at)

    pub refuted_done : (found : Option Refutation) (steps made : Refutation) (u x : Work) → refute w K ps f u ≡ Done found x → steps ≡ steps_from s.front s.params ps ks → made ≡ steps ++ steps_or_none found
        → refuted_by s n known u ≡ Done made x
    refuted_done found steps made u x e h g =
        by_run u
        ∙ ap (λ (o : Outcome (Option Refutation)). go_on o steps_with) (sym (run_is u) ∙ e)
        ∙ ap (λ (y : Refutation). give y x) (sym (g ∙ ap (λ (y : Refutation). y ++ steps_or_none found) (h ∙ ap (λ (X : List ℤ). steps_from s.front s.params X ks) at ∙ steps_are)))

    pub refuted_fault : (o : Option Refusal) (u x : Work) → IfSome o (λ e. refute w K ps f u ≡ Refused e x) → IfSome o (λ e. refuted_by s n known u ≡ Refused e x)
    refuted_fault None u x h = tt
    refuted_fault (Some e) u x h = by_run u ∙ ap (λ (o : Outcome (Option Refutation)). go_on o steps_with) (sym (run_is u) ∙ h)

-- ---- as the definition makes it

abbrev made_by : ℕ → ℕ → ℕ → ℕ → ℕ → List PathQuotient → List (List ℤ) → Counted Refutation
made_by m front own n w ks known =
    let count = length known in
    refute w (map (narrow_to w) known) (indices 0 m ++ indices count (length ks) ++ indices own n) (pos (count + length ks))
    >>= λ found. give (quotient_steps front count (indices 0 m) ks ++ steps_or_none found)

module _ (P : Problem) (scope : ℕ) (path : List (List ℤ)) (list : Option (List Component)) where
  abbrev leaf_by : LeafCase
  leaf_by = record { scope = scope; path = path; listed = []; list = list }

  module _ (s : Scope) (at : IsScopeOf P leaf_by s) (n : ℕ) (o : Premises) (w : Work) where
    same_scope : made_by P.params (P.params + length P.context) (P.params + length P.context + length path) n (scope + n) s.quotients.now (scope_forms P leaf_by ++ o.known) w ≡ refuted_by s n (scope_forms P leaf_by ++ o.known) w
    same_scope =
        let known = scope_forms P leaf_by ++ o.known in
        let width : scope + n ≡ s.params + length s.quotients.now + n = omega (arith, at.scope, at.params) in
        ap (λ (m : ℕ). made_by m (P.params + length P.context) (P.params + length P.context + length path) n (scope + n) s.quotients.now known w) (sym at.params)
        ∙ ap (λ (m : ℕ). made_by s.params m (P.params + length P.context + length path) n (scope + n) s.quotients.now known w) (sym at.front)
        ∙ ap (λ (m : ℕ). made_by s.params s.front m n (scope + n) s.quotients.now known w) (sym at.own)
        ∙ ap (λ (m : ℕ). made_by s.params s.front s.own n m s.quotients.now known w) width

    pub goal_fits : all_fit o.listed ≡ true → made_refutation P leaf_by s.quotients.now n (joined (leaf_forms P leaf_by) o) w ≡ refuted_by s n (scope_forms P leaf_by ++ o.known) w
    goal_fits h = ap (λ (b : Bool). go_on (unless b Overflow w) (λ done. made_by P.params (P.params + length P.context) (P.params + length P.context + length path) n (scope + n) s.quotients.now (scope_forms P leaf_by ++ o.known))) h ∙ same_scope

    pub goal_same : (m : ℕ) (K : List (List ℤ)) → IsTrue (all_fit o.listed) → m ≡ n → K ≡ scope_forms P leaf_by ++ o.known
        → made_refutation P leaf_by s.quotients.now n (joined (leaf_forms P leaf_by) o) w ≡ refuted_by s m K w
    goal_same m K h e g = goal_fits h ∙ sym (ap₂ (λ (i : ℕ) (X : List (List ℤ)). refuted_by s i X w) e g)

    pub goal_fault : (m : ℕ) (K : List (List ℤ)) → IsTrue (all_fit o.listed) → m ≡ n → K ≡ scope_forms P leaf_by ++ o.known → (f : Option Refusal) (v : Work) → IfSome f (λ e. refuted_by s m K w ≡ Refused e v)
        → IfSome f (λ e. made_refutation P leaf_by s.quotients.now n (joined (leaf_forms P leaf_by) o) w ≡ Refused e v)
    goal_fault m K h e g None v k = tt
    goal_fault m K h e g (Some f) v k = goal_same m K h e g ∙ k
