-- The run that a context keeps.
use Rattle.context_points.proofs.Words.{◌≡◌, ap, sym, subst, ℕ, ◌+◌, ◌≤◌, ℤ, Bool, false, arith, List, [], ◌∷◌, ◌++◌, length, take, IsTrue, take-take, take-append-le, length-take-le, IsContext, Remembered, IsRemembered, IsKnown, ◌∙◌, Result, ScopedForms, IsKeptContext, ◌-◌, drop, Ok, Err, OnOk, is_ok, take_all, take_rest, take-append-drop, length-append}
use Rattle.kept_run.proofs.Longer.{context_longer}

pub kept_on : (k between now : ScopedForms) → IsKeptContext k between → IsKeptContext between now → IsKeptContext k now
kept_on k between now a b = record { width = b.width ∙ a.width; forms = b.forms ∙ a.forms; spare = omega (arith, a.spare, b.spare) }

-- ---- a context's run, known of its first forms and then of all

pub known_all : (n number : ℕ) (K : List (List ℤ)) (is_known : Bool) (m : Remembered) (before : Bool) (known : ℕ) (old : Remembered) → IsKnown n K before known old → number ≡ length K
    → (IsTrue is_known → IsRemembered n K m) → IsKnown n K is_known number m
known_all n number K is_known m before known old was e is = record {
  context = was.context;
  within = λ h. omega (arith, e);
  remembered = λ h. subst (λ (l : List (List ℤ)). IsRemembered n l m) (sym (take_all number K (omega (arith, e)))) (is h);
}

pub of_all : (n known : ℕ) (K l : List (List ℤ)) (old now : Remembered) → l ≡ K → IsRemembered n (take known K) old
    → ((n : ℕ) (front : List (List ℤ)) → IsRemembered n front old → IsRemembered n (front ++ take (length l - known) (drop known l)) now) → IsRemembered n K now
of_all n known K l old now e is further =
    subst (λ (forms : List (List ℤ)). IsRemembered n forms now)
    (ap (λ (forms : List (List ℤ)). take known K ++ take (length forms - known) (drop known forms)) e ∙ ap (λ (rest : List (List ℤ)). take known K ++ rest) (take_rest K known) ∙ take-append-drop known K)
    (further n (take known K) is)

pub ok_tells : {A E P : Type 0} (r : Result A E) (b : Bool) → b ≡ is_ok r → OnOk r P → IsTrue b → P
ok_tells (Ok x) b e told h = told
ok_tells (Err x) b e told h = absurd cc

wider_context : (n : ℕ) (K : List (List ℤ)) → IsContext n K → IsContext (n + 1) K
wider_context n [] h = tt
wider_context n (c ∷ K) h = (record { some = h.0.some; most = omega (arith, h.0.most) }, wider_context n K h.1)

module _ (n : ℕ) (K : List (List ℤ)) (is_known : Bool) (known : ℕ) (run : Remembered) (was : IsKnown n K is_known known run) where
  -- one form more
  pub known_longer : (c : List ℤ) → 1 ≤ length c → length c ≤ n + 1 → IsKnown n (K ++ c ∷ []) is_known known run
  known_longer c some narrow = record {
    context = context_longer n K c some narrow was.context;
    within = λ h. let more = length-append K (c ∷ []) in omega (arith, more, was.within h);
    remembered = λ h. subst (λ (l : List (List ℤ)). IsRemembered n l run) (sym (take-append-le known K (c ∷ []) (was.within h))) (was.remembered h);
  }

  -- one place more: no run is known
  pub known_wider : IsKnown (n + 1) K false known run
  known_wider = record { context = wider_context n K was.context; within = λ h. absurd cc; remembered = λ h. absurd cc }

  -- the first forms, which may be over other places
  pub known_front : (w k : ℕ) (now : Bool) → k ≤ length K → IsContext w (take k K) → (IsTrue now → IsTrue is_known × (known ≤ k) × (n ≡ w)) → IsKnown w (take k K) now known run
  known_front w k now room narrow stays = record {
    context = narrow;
    within = λ h. omega (arith, length-take-le k K room, (stays h).1);
    remembered = λ h. subst (λ (l : List (List ℤ)). IsRemembered w l run) (sym (take-take known k K (stays h).1)) (subst (λ (v : ℕ). IsRemembered v (take known K) run) (stays h).2 (was.remembered (stays h).0));
  }
