-- All numbers of the certificate that is made fit.
use Rattle.certificate_laws.proofs.Words.{◌≡◌, refl, ap, sym, subst, ◌∙◌, ℕ, zero, suc, ◌+◌, ◌-◌, ◌*◌, ◌≤◌, arith, Option, Some, None, List, [], ◌∷◌, ◌++◌, append_assoc, drop, length, length-append, true, false, eqb-true, ℤ, pos, ◌*ℤ◌, map, replicate, ◌==◌, slice_index_or, if◌then◌else◌, list_all, AllByRecursion, most_unknowns, most_params, most_rows, most_context_rows, most_nesting, fits, is_nonneg, same_number, constant, coefficients, width, scale, add, widen_to, opposite, all_fit, opposite_listed, Problem, component_fits, step_fits, vector_fits, certificate_fits, tree_fits, leaf_fits, Tree, Leaf, Component, Answer, Void, Solved, is_scoped, nesting, IsRight, IsProblem, Refutation, LeafProofs, Certificate, LeafCase, leaf_cases, places_from, scope_forms, unknown_forms, row_form, plus_term, is_whole_list, put_in, put_in_listed, Premises, row_premises, sign_premises, least_premises, smaller_from, fronts_from, leaf_premises, joined, leaf_forms, Budget, IsBudget, Work, start_work, Outcome, Done, Refused, Overflow, Counted, go_on, ◌>>=◌, ◌>>◌, give, listed, left, Plus, Minus, root, run_from, numbers_of, point_setting, point_run, point, setting, answer_from, solve, first_node, indices, positive_terms, refute, PathQuotient, path_quotients, quotient_step, quotient_steps, narrow_to, steps_or_none, made_refutation, made_refutations, made_leaf, made_leaves, void_leaf, run_certificate, solve_with_certificate, unshared, both, both_true, every-append, every-parts, fit_parts, fit_head, fit_take, fit_drop, fit_entry, fit_widen, OnDone, Ensures, ensures-bind, ensures-give, length_map, start_fits, solve_good, narrow_rows, IsPointOf, point_right, IsRefutedPoint, IfSteps, refute-same, length-places, if_cases, scope_long, unknown_long, length-smaller}
use Rattle.pip_model.proofs.Fuel.{AtMost, falls-point, falls-run_from, falls-class}
use Rattle.run_laws.proofs.FitRun.{ClassFits, TreeFits, AnswerFits, run_from_fits, solve-fits, fitting_rows}
use Rattle.run_laws.proofs.Budgets.{solve-nested}
use Rattle.certificate_laws.proofs.TreeShape.{Shaped}
use Rattle.certificate_laws.proofs.LeafFacts.{AllPairs, pairs-kept, AllQuotients, LeafFacts, SizedList, leaf_facts}
use Rattle.certificate_laws.proofs.MadeRefutation.{IsPremises, narrow_context, known_long}
use Rattle.certificate_laws.proofs.MadeLeaves.{Ready, leaf_ready}
use Rattle.certificate_laws.proofs.FitSteps.{most_index, UpTo, AllUpTo, fits_up_to, up_to_indices, term_fits, positive_fits, StepsFit, AllFit, refute_fits, fit_widened, all_append}
use Rattle.certificate_laws.proofs.Accepted.{value_in, void_whole, void_none, void_known, tree_shaped, done_by, fitting_done, certified_by, certified-answer}
use Rattle.certificate_laws.proofs.FitForms.{places_fit, narrowed_fit, row_forms_fit, opposite_fits, put_in_fits, smaller_fit, ListFits, QuotientsFit, MaybeListFits, FitFacts, fit_facts}

-- ---- parts that begin with at most n left

abbrev pub OnWithin : {A : Type 0} → ℕ → (A → Type 0) → Outcome A → Type 0
OnWithin n Q (Done x v) = Q x × (left v ≤ n)
OnWithin n Q (Refused e v) = Unit {0}

pub record Within {A : Type 0} (n : ℕ) (Q : A → Type 0) (part : Counted A) : Type 0 where
  pub within : (v : Work) → left v ≤ n → OnWithin n Q (part v)

at_within : {A B : Type 0} (n : ℕ) (Q : A → Type 0) (R : B → Type 0) (o : Outcome A) (f : A → Counted B) → OnWithin n Q o → ((x : A) → Q x → Within n R (f x)) → OnWithin n R (go_on o f)
at_within n Q R (Done x v) f h k = (k x h.0).within v h.1
at_within n Q R (Refused e v) f h k = tt

within-bind : {A B : Type 0} (n : ℕ) (Q : A → Type 0) (R : B → Type 0) (part : Counted A) (f : A → Counted B) → Within n Q part → ((x : A) → Q x → Within n R (f x)) → Within n R (part >>= f)
within-bind n Q R part f h k = record { within = λ v l. at_within n Q R (part v) f (h.within v l) k }

within-give : {A : Type 0} (n : ℕ) (Q : A → Type 0) (x : A) → Q x → Within n Q (give x)
within-give n Q x h = record { within = λ v l. (h, l) }

within-listed : {B : Type 0} (n : ℕ) (R : B → Type 0) (zs : List ℤ) (rest : Counted B) → (all_fit zs ≡ true → Within n R rest) → Within n R (listed zs >> rest)
within-listed n R zs rest k = record { within = λ v l. if_cases (λ (o : Outcome (Unit {0})). OnWithin n R (go_on o (λ done. rest))) (all_fit zs) (Done tt v) (Refused Overflow v) (λ e. (k e).within v l) (λ e. tt) }

-- ---- the quotients' steps

quotient_steps_fit : (front next : ℕ) (places : List ℤ) (path : List (List ℤ)) (q k : ℕ) (ks : List PathQuotient) → k ≤ most_index → AllUpTo k places → next + length ks ≤ k → front + length path ≤ k → AllQuotients path q ks → QuotientsFit ks → StepsFit (quotient_steps front next places ks)
quotient_steps_fit front next places path q k [] m up room few all fit = refl
quotient_steps_fit front next places path q k (x ∷ ks) m up room few all fit =
    let s = quotient_step front places x in
    let index : UpTo k (pos (front + x.bound)) = record { number = front + x.bound; is = refl; most = omega (arith, few, all.0.inside) } in
    let own = both_true (fits (pos (front + x.bound))) (fits (pos 1)) (fits_up_to k (pos (front + x.bound)) m index) refl in
    let terms = both_true (term_fits (pos (front + x.bound), pos 1)) (list_all term_fits (positive_terms places _)) own (positive_fits k places _ m up (fit_take (width x.quotient.form) x.quotient.form fit.0.1)) in
    let here = both_true (fits x.quotient.den) (list_all term_fits s.terms) fit.0.0 terms in
    both_true (step_fits s) (list_all step_fits (quotient_steps front (next + 1) (places ++ pos next ∷ []) ks)) here
    (quotient_steps_fit front (next + 1) (places ++ pos next ∷ []) path (suc q) k ks m (every-append (UpTo k) places (pos next ∷ []) up (record { number = next; is = refl; most = omega (arith, room) }, tt)) (omega (arith, room)) few all.1 fit.1)

-- ---- one refutation

-- what it starts from fits where the numbers that were formed for it do, and leaves room
pub record KnownFits (most : ℕ) (s : Premises) : Type 0 where
  pub fit : all_fit s.listed ≡ true → AllFit s.known
  pub few : length s.known ≤ most

abbrev pub AllStepsFit : List Refutation → Type 0
AllStepsFit rs = list_all (list_all step_fits) rs ≡ true

module _ (P : Problem) (L : LeafCase) (ks : List PathQuotient) (n W limit most : ℕ) (quotients : QuotientsFit ks) (room : most + length ks + suc limit ≤ most_index) where
  module _ (s : Premises) (from : IsPremises P L ks n W s.known) (known : KnownFits most s) where
    abbrev count : ℕ
    count = length s.known

    abbrev w : ℕ
    w = L.scope + n

    abbrev front : ℕ
    front = P.params + length P.context

    abbrev first : Refutation
    first = quotient_steps front count (indices 0 P.params) ks

    abbrev places : List ℤ
    places = indices 0 P.params ++ indices count (length ks) ++ indices (front + length L.path) n

    long : count ≡ front + length L.path + (n + length from.rest)
    long = known_long P L ks n W s from

    first_fits : StepsFit first
    first_fits = quotient_steps_fit front count (indices 0 P.params) L.path P.params (count + length ks) ks (omega (arith, room, known.few)) (up_to_indices (count + length ks) 0 P.params (omega (arith, long))) (omega arith) (omega (arith, long)) from.quotients quotients

    places_up : AllUpTo (count + length ks) places
    places_up =
        every-append (UpTo _) (indices 0 P.params ++ indices count (length ks)) (indices (front + length L.path) n)
        (every-append (UpTo _) (indices 0 P.params) (indices count (length ks)) (up_to_indices _ 0 P.params (omega (arith, long))) (up_to_indices _ count (length ks) (omega arith)))
        (up_to_indices _ (front + length L.path) n (omega (arith, long)))

    with_first : (o : Option Refutation) → IfSteps StepsFit o → StepsFit (first ++ steps_or_none o)
    with_first None h = all_append step_fits first [] first_fits refl
    with_first (Some ss) h = all_append step_fits first ss first_fits h

    -- what is left does not rise
    falls : (o : Outcome (Option (List ℤ))) (r : Outcome (Option Refutation)) (k : ℕ) → IsRefutedPoint o r → AtMost k o → OnDone (IfSteps StepsFit) r → k ≤ limit → OnWithin limit (IfSteps StepsFit) r
    falls (Done (Some p) x) (Done None y) k same a f l = (f, (let e = ap left same in omega (arith, e)))
    falls (Done None x) (Done (Some ss) y) k same a f l = (f, (let e = ap left same in omega (arith, e)))
    falls (Done o x) (Refused g y) k same a f l = tt
    falls (Refused e x) (Refused g y) k same a f l = tt
    falls _ _ k same a f l = absurd same

    refuted_fits : all_fit s.listed ≡ true → Within limit (IfSteps StepsFit) (refute w (map (narrow_to w) s.known) places (pos (count + length ks)))
    refuted_fits e =
        let K = map (narrow_to w) s.known in
        let k = count + length ks in
        let narrow = narrow_context w W s.known from.narrow from.within in
        let many : length K ≤ k = omega (arith, length_map (narrow_to w) s.known) in
        record {
          within = λ v l. falls (point w K v) (refute w K places (pos k) v) (left v) (refute-same w K places (pos k) v narrow) ((falls-point w K).falls v)
              (refute_fits w K places k narrow (narrowed_fit w s.known (known.fit e)) places_up many v (omega (arith, room, known.few, l))) l;
        }

    pub refutation_fits : Within limit StepsFit (made_refutation P L ks n s)
    refutation_fits =
        within-listed limit StepsFit s.listed (refute w (map (narrow_to w) s.known) places (pos (count + length ks)) >>= λ found. give (first ++ steps_or_none found))
        (λ e. within-bind limit (IfSteps StepsFit) StepsFit (refute w (map (narrow_to w) s.known) places (pos (count + length ks))) (λ found. give (first ++ steps_or_none found)) (refuted_fits e)
        (λ found h. within-give limit StepsFit (first ++ steps_or_none found) (with_first found h)))

  pub refutations_fit : (ss : List Premises) → AllByRecursion (Ready P L ks n W) ss → AllByRecursion (KnownFits most) ss → Within limit AllStepsFit (made_refutations P L ks n ss)
  refutations_fit [] h k = within-give limit AllStepsFit [] refl
  refutations_fit (s ∷ ss) h k =
      within-bind limit StepsFit AllStepsFit (made_refutation P L ks n s) (λ r. made_refutations P L ks n ss >>= λ rs. give (r ∷ rs)) (refutation_fits s h.0.premises k.0)
      (λ r g. within-bind limit AllStepsFit AllStepsFit (made_refutations P L ks n ss) (λ rs. give (r ∷ rs)) (refutations_fit ss h.1 k.1)
      (λ rs e. within-give limit AllStepsFit (r ∷ rs) (both_true (list_all step_fits r) (list_all (list_all step_fits) rs) g e)))

-- ---- what a leaf's refutations start from

-- the most known forms
abbrev most_known : ℕ
most_known = 100000

module _ (P : Problem) (formed : IsProblem P) (t : Tree) (shallow : nesting t ≤ most_nesting) (L : LeafCase) (ks : List PathQuotient) (facts : LeafFacts P.unknowns P.params P.params [] [] t L ks) (fit : FitFacts (2 * nesting t) (nesting t) L ks) where
  abbrev nu : ℕ
  nu = P.unknowns

  abbrev sc : ℕ
  sc = L.scope

  abbrev W : ℕ
  W = sc + nu

  -- what a refutation starts from
  abbrev whole_of : Premises → Premises
  whole_of s = joined (leaf_forms P L) s

  scope_fit : all_fit L.listed ≡ true → AllFit (scope_forms P L)
  scope_fit e =
      every-append (λ (c : List ℤ). all_fit c ≡ true) (places_from W 0 P.params ++ map (widen_to W) P.context) (map (widen_to W) L.path)
      (every-append (λ (c : List ℤ). all_fit c ≡ true) (places_from W 0 P.params) (map (widen_to W) P.context) (places_fit W 0 P.params) (fit_widened W P.context (fitting_rows P.params P.context formed.context)))
      (fit_widened W L.path (fit.path_fit e))

  few_in_scope : length (scope_forms P L) ≤ most_params + most_context_rows + 2 * most_nesting
  few_in_scope = omega (arith, scope_long P L, formed.few_params, formed.few_context_rows, fit.short, shallow)

  unknowns_fit : AllFit (unknown_forms P L)
  unknowns_fit = every-append (λ (c : List ℤ). all_fit c ≡ true) (places_from W sc nu) (map (row_form nu sc) P.rows) (places_fit W sc nu) (row_forms_fit nu sc P.rows (fitting_rows (nu + P.params) P.rows formed.rows))

  few_unknowns : length (unknown_forms P L) ≤ most_unknowns + most_rows
  few_unknowns = omega (arith, unknown_long P L, formed.few_unknowns, formed.few_rows)

  -- a goal that a form over the scope is below 0
  goal_fits : (c : List ℤ) → 1 ≤ length c → (s : Premises) → s.known ≡ scope_forms P L ++ widen_to W (opposite c) ∷ [] → (all_fit s.listed ≡ true → (all_fit L.listed ≡ true) × (all_fit c ≡ true) × (all_fit (opposite_listed c) ≡ true)) → KnownFits most_known s
  goal_fits c some s is parts = record {
    fit = λ e.
        let es = parts e in
        subst AllFit (sym is) (every-append (λ (c : List ℤ). all_fit c ≡ true) (scope_forms P L) (widen_to W (opposite c) ∷ []) (scope_fit es.0) (fit_widened W (opposite c ∷ []) (opposite_fits c some es.1 es.2, tt)));
    few = omega (arith, ap length is, length-append (scope_forms P L) (widen_to W (opposite c) ∷ []), few_in_scope);
  }

  module _ (cs : List Component) (sized : SizedList sc (Some cs)) (numbers : ListFits cs) (count : length cs ≡ nu) where
    some_put : (sum row : List ℤ) (ds : List Component) → 1 ≤ length sum → SizedList sc (Some ds) → 1 ≤ length (put_in sum row ds)
    some_put sum (a ∷ row) (d ∷ ds) h z = some_put (plus_term sum a d.form) row ds (some_sum sum (scale a d.form) h (omega (arith, z.0, length_map (λ x. a *ℤ x) d.form))) z.1
      where
        some_sum : (xs ys : List ℤ) → 1 ≤ length xs → 1 ≤ length ys → 1 ≤ length (add xs ys)
        some_sum [] ys h k = absurd (omega arith)
        some_sum (x ∷ xs) [] h k = absurd (omega arith)
        some_sum (x ∷ xs) (y ∷ ys) h k = omega arith
    some_put sum _ _ h z = h

    some_widened : (w : ℕ) (c : List ℤ) → 1 ≤ length (widen_to w c)
    some_widened w c = omega (arith, length-append (coefficients c ++ replicate (w - width c) (pos 0)) (constant c ∷ []))

    rows_fit : (rows : List (List ℤ)) → AllFit rows → AllByRecursion (KnownFits most_known) (map whole_of (map (row_premises P L cs) rows))
    rows_fit [] f = tt
    rows_fit (row ∷ rows) f =
        let first = widen_to sc (drop nu row) in
        let r = put_in first row cs in
        let first_fit : all_fit first ≡ true = fit_widen _ (drop nu row) (fit_drop nu row f.0) in (
          goal_fits r (some_put first row cs (some_widened sc (drop nu row)) sized) (whole_of (row_premises P L cs row)) refl (λ e.
              let es = fit_parts L.listed (put_in_listed first row cs ++ opposite_listed r) e in
              let fs = fit_parts (put_in_listed first row cs) (opposite_listed r) es.1 in
              (es.0, put_in_fits first row cs first_fit fs.0, fs.1)),
          rows_fit rows f.1,
        )

    signs_fit : (ds : List Component) → SizedList sc (Some ds) → ListFits ds → AllByRecursion (KnownFits most_known) (map whole_of (map (sign_premises P L) ds))
    signs_fit [] z f = tt
    signs_fit (d ∷ ds) z f = (
      goal_fits d.form (omega (arith, z.0)) (whole_of (sign_premises P L d)) refl (λ e. let es = fit_parts L.listed (opposite_listed d.form) e in (es.0, f.0, es.1)),
      signs_fit ds z.1 f.1,
    )

    least_fit : (front ds : List Component) → cs ≡ front ++ ds → AllByRecursion (KnownFits most_known) (map whole_of (map (least_premises P L) (fronts_from front ds)))
    least_fit front [] e = tt
    least_fit front (d ∷ ds) e =
        let now = front ++ d ∷ [] in
        let joined : cs ≡ now ++ ds = e ∙ sym (append_assoc front (d ∷ []) ds) in
        let now_sized = (every-parts (λ (c : Component). length c.form ≡ sc + 1) now ds (subst (λ (xs : List Component). SizedList sc (Some xs)) joined sized)).0 in
        let now_fit = (every-parts (λ (c : Component). all_fit c.form ≡ true) now ds (subst ListFits joined numbers)).0 in
        let goal = smaller_from W sc now in
        let few : length now ≤ nu = omega (arith, count, ap length joined, length-append now ds) in
        let here : KnownFits most_known (whole_of (least_premises P L now)) = record {
          fit = λ f.
              let fs = fit_parts L.listed (constant (slice_index_or goal (length goal - 1) []) ∷ []) f in
              every-append (λ (c : List ℤ). all_fit c ≡ true) (scope_forms P L) (unknown_forms P L ++ goal) (scope_fit fs.0)
              (every-append (λ (c : List ℤ). all_fit c ≡ true) (unknown_forms P L) goal unknowns_fit
              (smaller_fit W sc sc now now_sized now_fit (omega arith) (omega (arith, few)) (fit_head (constant (slice_index_or goal (length goal - 1) [])) [] fs.1).0));
          few = omega (arith, length-append (scope_forms P L) (unknown_forms P L ++ goal), length-append (unknown_forms P L) goal, few_in_scope, few_unknowns, length-smaller W sc now, few, formed.few_unknowns);
        } in
        (here, least_fit now ds joined)

  module _ (integer : P.integer ≡ true) (right : IsRight P (Solved t)) (limit : ℕ) (room : most_known + most_nesting + suc limit ≤ most_index) where
    few_quotients : most_known + length ks + suc limit ≤ most_index
    few_quotients = omega (arith, room, fit.few_quotients, shallow)

    leaf_numbers : (o : Option (List Component)) → L.list ≡ o → Within limit AllStepsFit (made_leaf P L ks o)
    leaf_numbers None e =
        let s : Premises = whole_of (record { known = unknown_forms P L; listed = [] }) in
        let known : KnownFits most_known s = record {
          fit = λ f. every-append (λ (c : List ℤ). all_fit c ≡ true) (scope_forms P L) (unknown_forms P L) (scope_fit (fit_parts L.listed [] f).0) unknowns_fit;
          few = omega (arith, length-append (scope_forms P L) (unknown_forms P L), few_in_scope, few_unknowns);
        } in
        refutations_fit P L ks nu W limit most_known fit.quotients few_quotients (map whole_of (leaf_premises P L None)) (leaf_ready P formed integer t right L ks facts None e) (known, tt)
    leaf_numbers (Some cs) e =
        let ready = leaf_ready P formed integer t right L ks facts (Some cs) e in
        let sized : SizedList sc (Some cs) = subst (SizedList sc) e facts.sized in
        let numbers : ListFits cs = subst MaybeListFits e fit.list in
        let listed = subst (λ (o : Option (List Component)). is_whole_list nu o ≡ true) e facts.whole in
        let count : length cs ≡ nu = eqb-true (length cs) nu (both (length cs == nu) (list_all (λ (c : Component). same_number c.den (pos 1)) cs) listed).0 in
        let rows = map whole_of (map (row_premises P L cs) P.rows) in
        let signs = map whole_of (map (sign_premises P L) cs) in
        let least = map whole_of (map (least_premises P L) (fronts_from [] cs)) in
        within-bind limit AllStepsFit AllStepsFit (made_refutations P L ks 0 rows) (λ a. made_refutations P L ks 0 signs >>= λ b. made_refutations P L ks nu least >>= λ c. give (a ++ b ++ c))
        (refutations_fit P L ks 0 W limit most_known fit.quotients few_quotients rows ready.0 (rows_fit cs sized numbers count P.rows (fitting_rows (nu + P.params) P.rows formed.rows)))
        (λ a ha. within-bind limit AllStepsFit AllStepsFit (made_refutations P L ks 0 signs) (λ b. made_refutations P L ks nu least >>= λ c. give (a ++ b ++ c))
        (refutations_fit P L ks 0 W limit most_known fit.quotients few_quotients signs ready.1 (signs_fit cs sized numbers count cs sized numbers))
        (λ b hb. within-bind limit AllStepsFit AllStepsFit (made_refutations P L ks nu least) (λ c. give (a ++ b ++ c))
        (refutations_fit P L ks nu W limit most_known fit.quotients few_quotients least ready.2 (least_fit cs sized numbers count [] cs refl))
        (λ c hc. within-give limit AllStepsFit (a ++ b ++ c) (all_append (list_all step_fits) (a ++ b) c (all_append (list_all step_fits) a b ha hb) hc))))

-- ---- all leaves, and the certificate

abbrev LeavesFit : List LeafProofs → Type 0
LeavesFit ps = list_all (leaf_fits false) ps ≡ true

module _ (P : Problem) (formed : IsProblem P) (integer : P.integer ≡ true) (t : Tree) (right : IsRight P (Solved t)) (shallow : nesting t ≤ most_nesting) (limit : ℕ) (room : most_known + most_nesting + suc limit ≤ most_index) where
  leaves_fit : (Ls : List LeafCase) (kss : List (List PathQuotient)) → AllPairs (LeafFacts P.unknowns P.params P.params [] [] t) Ls kss → AllPairs (FitFacts (2 * nesting t) (nesting t)) Ls kss → Within limit LeavesFit (made_leaves P Ls kss)
  leaves_fit [] [] h k = within-give limit LeavesFit [] refl
  leaves_fit (L ∷ Ls) (ks ∷ kss) h k =
      within-bind limit AllStepsFit LeavesFit (made_leaf P L ks L.list) (λ p. made_leaves P Ls kss >>= λ ps. give (unshared p ∷ ps)) (leaf_numbers P formed t shallow L ks h.0 k.0 integer right limit room L.list refl)
      (λ p g. within-bind limit LeavesFit LeavesFit (made_leaves P Ls kss) (λ ps. give (unshared p ∷ ps)) (leaves_fit Ls kss h.1 k.1)
      (λ ps e. within-give limit LeavesFit (unshared p ∷ ps) (both_true (leaf_fits false (unshared p)) (list_all (leaf_fits false) ps) g e)))
  leaves_fit _ _ h k = absurd h

-- ---- the vector

-- a point's numbers fit where its context's do
module _ (w : ℕ) (K : List (List ℤ)) (fit : AllFit K) where
  constants_fit : (cs : List Component) → list_all component_fits cs ≡ true → all_fit (map (λ (c : Component). constant c.form) cs) ≡ true
  constants_fit [] h = refl
  constants_fit (c ∷ cs) h =
      let parts = both (component_fits c) (list_all component_fits cs) h in
      both_true (fits (constant c.form)) (all_fit (map (λ (c : Component). constant c.form) cs)) (fit_entry c.form (width c.form) (both (fits c.den) (all_fit c.form) parts.0).1) (constants_fit cs parts.1)

  abbrev VectorFits : Option (List ℤ) → Type 0
  VectorFits p = vector_fits p ≡ true

  numbers_fit : (t : Tree) → TreeFits t → VectorFits (numbers_of t)
  numbers_fit (Leaf cs) h = constants_fit cs h
  numbers_fit _ h = refl

  run_point_fits : Ensures VectorFits (point_run w K)
  run_point_fits =
      let N = root w 0 (map (widen_to w) K) [] in
      ensures-bind TreeFits VectorFits (run_from (point_setting w) N) (λ t. give (numbers_of t))
      (run_from_fits (point_setting w) (λ L v c h. ensures-give ClassFits (if is_nonneg (constant c) then Plus else Minus) (if_cases ClassFits (is_nonneg (constant c)) Plus Minus (λ e. tt) (λ e. tt))) N (start_fits w 0 (map (widen_to w) K) (fit_widened w K fit)))
      (λ t h. ensures-give VectorFits (numbers_of t) (numbers_fit t h))

pub point_fits : (w : ℕ) (K : List (List ℤ)) → AllFit K → Ensures (λ (p : Option (List ℤ)). vector_fits p ≡ true) (point w K)
point_fits zero [] fit = ensures-give (λ (p : Option (List ℤ)). vector_fits p ≡ true) (Some []) refl
point_fits zero (c ∷ K) fit = run_point_fits zero (c ∷ K) fit
point_fits (suc w) K fit = run_point_fits (suc w) K fit

-- ---- the whole

falls-answer_from : (P : Problem) (p : Option (List ℤ)) (v : Work) → AtMost (left v) (answer_from P p v)
falls-answer_from P None v = omega arith
falls-answer_from P (Some p) v = go (run_from (setting P) (first_node P) v) ((falls-run_from (setting P) falls-class (first_node P)).falls v)
  where
    go : (o : Outcome Tree) → AtMost (left v) o → AtMost (left v) (go_on o (λ t. give (Solved t)))
    go (Done t w) h = h
    go (Refused e w) h = h

module _ (P : Problem) (formed : IsProblem P) (limit : ℕ) (room : most_known + most_nesting + suc limit ≤ most_index) where
  void_fits : IsRight P Void → (p : Option (List ℤ)) (v : Work) → left v ≤ limit → OnWithin limit (λ (c : Certificate). certificate_fits c ≡ true) (run_certificate P p Void v)
  void_fits right p v l =
      let s = void_whole P formed in
      let L = void_leaf P in
      let m = P.params in
      let Q : Certificate → Type 0 = λ c. certificate_fits c ≡ true in
      let A = places_from m 0 m in
      let B = map (widen_to m) P.context in
      let known : KnownFits most_known s = record {
        fit = λ e. every-append (λ (c : List ℤ). all_fit c ≡ true) (A ++ B) [] (every-append (λ (c : List ℤ). all_fit c ≡ true) A B (places_fit m 0 m) (fit_widened m P.context (fitting_rows m P.context formed.context))) tt;
        few = omega (arith, length-append (A ++ B) [], length-append A B, length-places m 0 m, length_map (widen_to m) P.context, formed.few_params, formed.few_context_rows);
      } in
      let few : most_known + 0 + suc limit ≤ most_index = omega (arith, room) in
      (within-bind limit AllStepsFit Q (made_refutations P L [] 0 (s ∷ [])) (λ rs. give (record { shares = false; vector = None; leaves = unshared rs ∷ [] }))
      (refutations_fit P L [] 0 m limit most_known tt few (s ∷ []) (record { premises = void_known P formed; none = void_none P formed right }, tt) (known, tt))
      (λ rs h. within-give limit Q (record { shares = false; vector = None; leaves = unshared rs ∷ [] }) (both_true (leaf_fits false (unshared rs)) true h refl))).within v l

  tree_fits_made : P.integer ≡ true → (t : Tree) → IsRight P (Solved t) → is_scoped P.params t ≡ true → Shaped P.unknowns t → tree_fits t ≡ true → nesting t ≤ most_nesting → (p : List ℤ) → all_fit p ≡ true → (v : Work) → left v ≤ limit
      → OnWithin limit (λ (c : Certificate). certificate_fits c ≡ true) (run_certificate P (Some p) (Solved t) v)
  tree_fits_made integer t right scoped shaped fit shallow p vector v l =
      let Ls = leaf_cases _ [] [] t in
      let kss = path_quotients 0 [] t in
      let Q : Certificate → Type 0 = λ c. certificate_fits c ≡ true in
      let few = fit_facts _ [] [] 0 [] t scoped fit (λ e. tt) tt in
      let few_is : AllPairs (FitFacts (2 * nesting t) (nesting t)) Ls kss = pairs-kept (FitFacts (0 + 2 * nesting t) (0 + nesting t)) (FitFacts (2 * nesting t) (nesting t)) Ls kss
      (λ L ks f. record { path_fit = f.path_fit; list = f.list; quotients = f.quotients; short = omega (arith, f.short); few_quotients = omega (arith, f.few_quotients) }) few in
      (within-bind limit LeavesFit Q (made_leaves P Ls kss) (λ ls. give (record { shares = false; vector = Some p; leaves = ls })) (leaves_fit P formed integer t right shallow limit room Ls kss (leaf_facts P.unknowns _ _ [] [] 0 [] t refl scoped shaped) few_is)
      (λ ls h. within-give limit Q (record { shares = false; vector = Some p; leaves = ls }) (both_true (all_fit p) (list_all (leaf_fits false) ls) vector h))).within v l

-- the certificate can be printed and read back
pub certificate-fits : (P : Problem) (b : Budget) (a : Answer) (c : Certificate) (w : Work) → IsProblem P → P.integer ≡ true → IsBudget b → solve_with_certificate b P ≡ Done (a, Some c) w → certificate_fits c ≡ true
certificate-fits P b a c w formed integer budget e =
    let parts = certified_by P b a (Some c) w e in
    let solved = certified-answer P b a (Some c) w e in
    let good = solve_good P b a solved.0 formed solved.1 in
    let limit = left (start_work b) in
    let room : most_known + most_nesting + suc limit ≤ most_index = omega (arith, budget.pivots, budget.cuts, budget.splits) in
    let before : left parts.before ≤ limit = subst (AtMost limit) parts.found_is ((falls-point P.params P.context).falls (start_work b)) in
    let between : left parts.between ≤ limit = omega (arith, before, subst (AtMost (left parts.before)) parts.answer_is (falls-answer_from P parts.found parts.before)) in
    let vector : vector_fits parts.found ≡ true = subst (OnDone (λ (p : Option (List ℤ)). vector_fits p ≡ true)) parts.found_is ((point_fits P.params P.context (fitting_rows P.params P.context formed.context)).ensures (start_work b)) in
    let here = subst (OnDone (IsPointOf P.params P.context)) parts.found_is ((point_right P.params P.context (narrow_rows P.params P.context formed.context)).ensures (start_work b)) in
    let certificate = fitting_done (run_certificate P parts.found a parts.between) c parts.after parts.certificate_is in
    let fit = solve-fits P b a solved.0 formed solved.1 in
    by_point_fits parts.found a parts.before parts.between here vector parts.answer_is good.right good.scoped fit (λ t same. solve-nested P b t solved.0 (subst (λ (x : Answer). solve b P ≡ Done x solved.0) same solved.1)) limit room between c parts.after certificate
  where
    of_outcome : (n : ℕ) (o : Outcome Certificate) (c : Certificate) (v : Work) → OnWithin n (λ (x : Certificate). certificate_fits x ≡ true) o → o ≡ Done c v → certificate_fits c ≡ true
    of_outcome n o c v h e = (subst (OnWithin n (λ (x : Certificate). certificate_fits x ≡ true)) e h).0

    by_point_fits : (p : Option (List ℤ)) (a : Answer) (v w : Work) → IsPointOf P.params P.context p → vector_fits p ≡ true → answer_from P p v ≡ Done a w → IsRight P a → ((t : Tree) → a ≡ Solved t → is_scoped P.params t ≡ true) → AnswerFits a
        → ((t : Tree) → a ≡ Solved t → nesting t ≤ b.nesting) → (limit : ℕ) → most_known + most_nesting + suc limit ≤ most_index → left w ≤ limit → (c : Certificate) (x : Work) → run_certificate P p a w ≡ Done c x → certificate_fits c ≡ true
    by_point_fits None a v w h vector e right scoped fit nested limit room l c x is =
        let same : Void ≡ a = ap (value_in a) e in
        of_outcome limit (run_certificate P None a w) c x (subst (λ (y : Answer). OnWithin limit (λ (z : Certificate). certificate_fits z ≡ true) (run_certificate P None y w)) same (void_fits P formed limit room (subst (IsRight P) (sym same) right) None w l)) is
    by_point_fits (Some p) a v w h vector e right scoped fit nested limit room l c x is =
        let made = done_by (run_from (setting P) (first_node P) v) (λ t. give (Solved t)) a w e in
        let t = made.value in
        let same : Solved t ≡ a = ap (value_in a) made.rest in
        let shaped : Shaped P.unknowns t = subst (OnDone (Shaped P.unknowns)) made.first ((tree_shaped P formed integer p h).ensures v) in
        let shallow : nesting t ≤ most_nesting = omega (arith, nested t (sym same), budget.nesting) in
        of_outcome limit (run_certificate P (Some p) a w) c x (subst (λ (y : Answer). OnWithin limit (λ (z : Certificate). certificate_fits z ≡ true) (run_certificate P (Some p) y w)) same
        (tree_fits_made P formed limit room integer t (subst (IsRight P) (sym same) right) (scoped t (sym same)) shaped (subst AnswerFits (sym same) fit) shallow p vector w l)) is
