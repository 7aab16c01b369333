-- The walk at a node: a choice, or the definition of a quotient.
use Rattle.solve_certified.proofs.Words.{◌≡◌, refl, ap, sym, subst, ◌∙◌, ℕ, ◌+◌, ◌≤◌, ℤ, pos, true, ◌&&◌, List, [], ◌∷◌, ◌++◌, length, take, length-append, append-nil, eqb-true, arith, Option, Some, None, IfSome, IsTrue, IsFalse, int_le, take_at, opposite, constant, all_fit, opposite_listed, upper_bound, Problem, Tree, If, NewParm, is_form, is_scoped, nesting, tree_fits, fits, Certificate, Work, Outcome, Done, Refused, Refusal, Overflow, PathQuotient, both, is_form_overflow, run_fault, of_form, TrailForms, below_quotient, made_below, are_whole, IsAt}
use Rattle.affine_forms.specs.declared.memory.FormRefusal.{FormRefusal}
use Rattle.affine_forms.specs.declared.memory.FormRefusal.TheVariants as form
use Rattle.solve_certified.proofs.MadeBelow.{choice_stop, choice_next, choice_unfit, definition_next, definition_unfit}
use Rattle.solve_certified.proofs.QuotientLists.{reads_more}

abbrev IfRefused : Option Refusal → Outcome Certificate → Work → Type 0
IfRefused o x u = IfSome o (λ e. x ≡ Refused e u)

along : (o : Option Refusal) (x y : Outcome Certificate) (u : Work) → x ≡ y → IfRefused o y u → IfRefused o x u
along o x y u e h = subst (λ (z : Outcome Certificate). IfRefused o z u) (sym e) h

-- a form that is refused
refused_at : (f : FormRefusal) (x : Outcome Certificate) (u : Work) → (is_form_overflow f ≡ true → x ≡ Refused Overflow u) → IfRefused (run_fault (of_form f)) x u
refused_at form.Overflow x u h = h refl
refused_at form.WantOfMemory x u h = tt

module _ (P : Problem) (q : TrailForms) (c : Certificate) (w : Work) (t : Tree) where
  module _ (v : List ℤ) (a b : Tree) (is : t ≡ If v a b) (q1 : TrailForms) (down : q1 ≡ record q { forms = q.forms ++ v ∷ [] }) where
    here : made_below P q c t w ≡ made_below P q c (If v a b) w
    here = ap (λ (s : Tree). made_below P q c s w) is

    first_is : made_below P q1 c a w ≡ made_below P (record q { forms = q.forms ++ v ∷ [] }) c a w
    first_is = ap (λ (x : TrailForms). made_below P x c a w) down

    pub select_stop : (f : Option Refusal) (u : Work) → IfSome f (λ e. made_below P q1 c a w ≡ Refused e u) → IfSome f (λ e. made_below P q c t w ≡ Refused e u)
    select_stop None u h = tt
    select_stop (Some e) u h = here ∙ choice_stop P q c w v a b e u (sym first_is ∙ h)

    module _ (d : Certificate) (u : Work) (done : made_below P q1 c a w ≡ Done d u) where
      pub select_unfit : (f : FormRefusal) → 1 ≤ P.unknowns → IsTrue (are_whole P.unknowns t) → (IsTrue (is_form_overflow f) → IsFalse (all_fit (opposite_listed v)))
          → IfSome (run_fault (of_form f)) (λ e. made_below P q c t w ≡ Refused e u)
      select_unfit f some whole h =
          let parts = both (are_whole P.unknowns a) (are_whole P.unknowns b) (subst (λ (s : Tree). are_whole P.unknowns s ≡ true) is whole) in
          refused_at f (made_below P q c t w) u (λ y. here ∙ choice_unfit P q c w v a b d u (sym first_is ∙ done) some parts.1 (h y))

      module _ (q2 : TrailForms) (up : q2 ≡ record q { forms = q.forms ++ opposite v ∷ [] }) (fit : IsTrue (all_fit (opposite_listed v))) where
        pub select_next : made_below P q c t w ≡ made_below P q2 d b u
        select_next = here ∙ choice_next P q c w v a b d u (sym first_is ∙ done) fit ∙ sym (ap (λ (x : TrailForms). made_below P x d b u) up)

        pub select_later : (f : Option Refusal) (x : Work) → IfSome f (λ e. made_below P q2 d b u ≡ Refused e x) → IfSome f (λ e. made_below P q c t w ≡ Refused e x)
        select_later f x h = along f (made_below P q c t w) (made_below P q2 d b u) x select_next h

  module _ (v : List ℤ) (d : ℤ) (a : Tree) (is : t ≡ NewParm v d a) where
    define_here : made_below P q c t w ≡ made_below P q c (NewParm v d a) w
    define_here = ap (λ (s : Tree). made_below P q c s w) is

    abbrev pub bound_form : List ℤ
    bound_form = upper_bound (q.scope + 1) q.scope (record { form = v; den = d })

    pub define_unfit : (f : FormRefusal) → 1 ≤ P.unknowns → IsTrue (are_whole P.unknowns t) → (IsTrue (is_form_overflow f) → IsFalse (all_fit (constant bound_form ∷ [])))
        → IfSome (run_fault (of_form f)) (λ e. made_below P q c t w ≡ Refused e w)
    define_unfit f some whole h =
        let inner = subst (λ (s : Tree). are_whole P.unknowns s ≡ true) is whole in
        refused_at f (made_below P q c t w) w (λ y. define_here ∙ definition_unfit P q c w v d a some inner (h y))

    module _ (q1 : TrailForms) (down : q1 ≡ below_quotient q v d) (fit : IsTrue (all_fit (constant bound_form ∷ []))) where
      pub define_next : made_below P q c t w ≡ made_below P q1 c a w
      define_next = define_here ∙ definition_next P q c w v d a fit ∙ sym (ap (λ (x : TrailForms). made_below P x c a w) down)

      pub define_later : (f : Option Refusal) (x : Work) → IfSome f (λ e. made_below P q1 c a w ≡ Refused e x) → IfSome f (λ e. made_below P q c t w ≡ Refused e x)
      define_later f x h = along f (made_below P q c t w) (made_below P q1 c a w) x define_next h

-- ---- what holds at the nodes below

pub select_at : (P : Problem) (q q1 : TrailForms) (t : Tree) (v f : List ℤ) (a b : Tree) → IsAt P q t → t ≡ If v a b → q1 ≡ record q { forms = q.forms ++ f ∷ [] } → IsAt P q1 a × IsAt P q1 b
select_at P q q1 t v f a b at is up =
    let scoped : (is_form q.scope v && is_scoped q.scope a && is_scoped q.scope b) ≡ true = subst (λ (s : Tree). is_scoped q.scope s ≡ true) is at.scoped in
    let fit : (all_fit v && tree_fits a && tree_fits b) ≡ true = subst (λ (s : Tree). tree_fits s ≡ true) is at.fits in
    let whole : (are_whole P.unknowns a && are_whole P.unknowns b) ≡ true = subst (λ (s : Tree). are_whole P.unknowns s ≡ true) is at.whole in
    let depth : nesting t ≡ nesting (If v a b) = ap nesting is in
    let scopes = both (is_form q.scope v && is_scoped q.scope a) (is_scoped q.scope b) scoped in
    let fits = both (all_fit v && tree_fits a) (tree_fits b) fit in
    let wholes = both (are_whole P.unknowns a) (are_whole P.unknowns b) whole in
    subst (λ (x : TrailForms). IsAt P x a × IsAt P x b) (sym up) (
      record {
        some = at.some;
        scope = at.scope;
        reads = at.reads;
        scoped = (both (is_form q.scope v) (is_scoped q.scope a) scopes.0).1;
        fits = (both (all_fit v) (tree_fits a) fits.0).1;
        room = omega (arith, at.room);
        whole = wholes.0;
      },
      record { some = at.some; scope = at.scope; reads = at.reads; scoped = scopes.1; fits = fits.1; room = omega (arith, at.room); whole = wholes.1 },
    )

pub below_at : (P : Problem) (q q1 : TrailForms) (t : Tree) (v : List ℤ) (d : ℤ) (a : Tree) → IsAt P q t → t ≡ NewParm v d a → q1 ≡ below_quotient q v d → IsAt P q1 a
below_at P q q1 t v d a at is down =
    let scoped : (is_form q.scope v && int_le (pos 1) d && is_scoped (q.scope + 1) a) ≡ true = subst (λ (s : Tree). is_scoped q.scope s ≡ true) is at.scoped in
    let fit : (all_fit v && fits d && tree_fits a) ≡ true = subst (λ (s : Tree). tree_fits s ≡ true) is at.fits in
    let whole : are_whole P.unknowns a ≡ true = subst (λ (s : Tree). are_whole P.unknowns s ≡ true) is at.whole in
    let depth : nesting t ≡ nesting (NewParm v d a) = ap nesting is in
    let formed = (both (is_form q.scope v) (int_le (pos 1) d) (both (is_form q.scope v && int_le (pos 1) d) (is_scoped (q.scope + 1) a) scoped).0).0 in
    let wide : length v ≡ q.scope + 1 = eqb-true (length v) (q.scope + 1) formed in
    let k : PathQuotient = record { quotient = record { form = v; den = d }; bound = length q.forms + 1 } in
    let many = length-append q.quotients (k ∷ []) in
    subst (λ (x : TrailForms). IsAt P x a) (sym down) record {
      some = at.some;
      scope = omega (arith, at.scope, many);
      reads = reads_more P.params q.quotients k at.reads (omega (arith, wide, at.scope));
      scoped = (both (is_form q.scope v && int_le (pos 1) d) (is_scoped (q.scope + 1) a) scoped).1;
      fits = (both (all_fit v && fits d) (tree_fits a) fit).1;
      room = omega (arith, at.room);
      whole = whole;
    }

-- ---- back at a node

taken : {A : Type 0} (xs now rest : List A) (n : ℕ) → now ≡ xs ++ rest → n ≡ length xs → take n now ≡ xs
taken xs now rest n e h = ap (λ (k : ℕ). take k now) h ∙ ap (take (length xs)) e ∙ take_at xs rest (length xs) refl

pub select_back : (q now : TrailForms) (rest : List (List ℤ)) (s n k : ℕ) → now ≡ record q { forms = q.forms ++ rest } → s ≡ q.scope → n ≡ length q.forms → k ≡ length q.quotients
    → record { scope = s; forms = take n now.forms; quotients = take k now.quotients } ≡ q
select_back q now rest s n k e scope forms quotients =
    let first = taken q.forms now.forms rest n (ap (λ (x : TrailForms). x.forms) e) forms in
    let last = taken q.quotients now.quotients [] k (ap (λ (x : TrailForms). x.quotients) e ∙ sym (append-nil q.quotients)) quotients in
    ap (λ (i : ℕ). let x : TrailForms = record { scope = i; forms = take n now.forms; quotients = take k now.quotients } in x) scope
    ∙ ap (λ (xs : List (List ℤ)). let x : TrailForms = record { scope = q.scope; forms = xs; quotients = take k now.quotients } in x) first
    ∙ ap (λ (xs : List PathQuotient). let x : TrailForms = record { scope = q.scope; forms = q.forms; quotients = xs } in x) last
