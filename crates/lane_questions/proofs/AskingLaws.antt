-- What is kept of a context in lanes, from question to question.
use Rattle.lane_questions.proofs.Words.{◌≡◌, ◌∙◌, refl, ap, sym, subst, ℕ, ◌+◌, ◌≤◌, ℤ, false, arith, suc, List, [], ◌∷◌, ◌++◌, length, take, length-append, length-map, length-take-le, take-take, take-append-le, take-map, take_all, IsTrue, IfSome, Option, Some, None, IsNarrow, lanes_of, all_lanes, AreFirst, LaneVertex, IsKeptLanes, IsEndedLanes, IsQuestion, LaneState, IsAsking, IsBegun, IsMade, unkept}

-- ---- the first of some forms

front_le : {X : Type 0} → (f m : ℕ) (K : List X) → length (take f (take m K)) ≤ length (take f K)
front_le (suc f) (suc m) (x ∷ K) = omega (arith, front_le f m K)
front_le _ _ _ = omega arith

front_is : {X : Type 0} → (f m : ℕ) (K : List X) → take (length (take f (take m K))) (take f K) ≡ take f (take m K)
front_is (suc f) (suc m) (x ∷ K) = ap (λ (xs : List _). x ∷ xs) (front_is f m K)
front_is _ _ _ = refl

module _ (n : ℕ) (K : List (List ℤ)) (s : LaneState) (was : IsAsking n K s) where
  -- one form more
  pub asking_longer : (c : List ℤ) (now : LaneState) → now ≡ record s { tried = false } → IsAsking n (K ++ c ∷ []) now
  asking_longer c now e = rw e (record {
    number = omega (arith, more, was.number);
    forms = was.forms ∙ ap all_lanes (sym (take-append-le (length s.forms) K (c ∷ []) was.number));
    within = λ h. omega (arith, more, was.within h);
    kept = λ h. subst (λ (l : List (List ℤ)). IsEndedLanes n l s.kept) (sym (take-append-le s.known K (c ∷ []) (was.within h))) (was.kept h);
    earlier_within = λ h. omega (arith, more, was.earlier_within h);
    earlier_kept = λ h. subst (λ (l : List (List ℤ)). IsEndedLanes s.earlier.table.unknowns l s.earlier) (sym (take-append-le s.fewer K (c ∷ []) (was.earlier_within h))) (was.earlier_kept h);
    tried_forms = λ t h. absurd cc;
    tried_all = λ t h. absurd cc;
  })
    where
      more : length (K ++ c ∷ []) ≡ length K + 1
      more = length-append K (c ∷ [])

  -- no run is kept, over any number of places
  pub asking_unkept : (w : ℕ) → IsAsking w K (unkept s)
  asking_unkept w = record {
    number = was.number;
    forms = was.forms;
    within = λ h. absurd cc;
    kept = λ h. absurd cc;
    earlier_within = was.earlier_within;
    earlier_kept = was.earlier_kept;
    tried_forms = λ t h. absurd cc;
    tried_all = λ t h. absurd cc;
  }

  -- the first forms, over any number of places
  pub asking_front : (w f : ℕ) (now : LaneState) → f ≤ length K → now.forms ≡ take f s.forms → now.tried ≡ false
      → (IsTrue now.is_kept → (now.known ≤ f) × IsEndedLanes w (take now.known K) now.kept)
      → (IsTrue now.is_earlier → (now.fewer ≤ f) × IsEndedLanes now.earlier.table.unknowns (take now.fewer K) now.earlier)
      → IsAsking w (take f K) now
  asking_front w f now room forms untried kept earlier = record {
    number = omega (arith, long, front_le f (length s.forms) K);
    forms = are ∙ ap all_lanes (sym (front_is f (length s.forms) K)) ∙ ap (λ (k : ℕ). all_lanes (take k (take f K))) (sym long);
    within = λ h. omega (arith, front, (kept h).0);
    kept = λ h. subst (λ (l : List (List ℤ)). IsEndedLanes w l now.kept) (sym (take-take now.known f K (kept h).0)) (kept h).1;
    earlier_within = λ h. omega (arith, front, (earlier h).0);
    earlier_kept = λ h. subst (λ (l : List (List ℤ)). IsEndedLanes now.earlier.table.unknowns l now.earlier) (sym (take-take now.fewer f K (earlier h).0)) (earlier h).1;
    tried_forms = λ t h. absurd cc;
    tried_all = λ t h. absurd cc;
  }
    where
      are : now.forms ≡ all_lanes (take f (take (length s.forms) K))
      are = forms ∙ ap (take f) was.forms ∙ take-map lanes_of f (take (length s.forms) K)

      long : length now.forms ≡ length (take f (take (length s.forms) K))
      long = ap length are ∙ length-map (take f (take (length s.forms) K)) lanes_of

      front : length (take f K) ≡ f
      front = length-take-le f K room

  -- the kept run, and the one of fewer forms, are known of the first forms
  pub kept_front : (w f : ℕ) → IsTrue s.is_kept → s.known ≤ f → s.kept.table.unknowns ≡ w → (s.known ≤ f) × IsEndedLanes w (take s.known K) s.kept
  kept_front w f h le e = (le, subst (λ (v : ℕ). IsEndedLanes v (take s.known K) s.kept) (sym (was.kept h).kept.unknowns ∙ e) (was.kept h))

  pub earlier_front : (w f : ℕ) → IsTrue s.is_earlier → s.fewer ≤ f → s.earlier.table.unknowns ≡ w → (s.fewer ≤ f) × IsEndedLanes w (take s.fewer K) s.earlier
  earlier_front w f h le e = (le, subst (λ (v : ℕ). IsEndedLanes v (take s.fewer K) s.earlier) e (was.earlier_kept h))

  -- the forms that stand in lanes are the first
  pub asked_first : AreFirst K s.forms
  asked_first = record { number = was.number; same = was.forms }

  -- other forms in lanes
  pub asking_read : (forms : List (List ℤ)) → AreFirst K forms → s.tried ≡ false → IsAsking n K (record s { forms = forms })
  asking_read forms first untried = record {
    number = first.number;
    forms = first.same;
    within = was.within;
    kept = was.kept;
    earlier_within = was.earlier_within;
    earlier_kept = was.earlier_kept;
    tried_forms = λ t h. absurd cc;
    tried_all = λ t h. absurd cc;
  }

  -- where no run is kept, what is begun or made is not spoken of
  pub unkept_from : (w : ℕ) (now : LaneState) → AreFirst K now.forms
      → (IsTrue now.is_earlier → (now.fewer ≤ length K) × IsEndedLanes now.earlier.table.unknowns (take now.fewer K) now.earlier) → IsAsking w K (unkept now)
  unkept_from w now first earlier = record {
    number = first.number;
    forms = first.same;
    within = λ h. absurd cc;
    kept = λ h. absurd cc;
    earlier_within = λ h. (earlier h).0;
    earlier_kept = λ h. (earlier h).1;
    tried_forms = λ t h. absurd cc;
    tried_all = λ t h. absurd cc;
  }

  pub same_earlier : IsTrue s.is_earlier → (s.fewer ≤ length K) × IsEndedLanes s.earlier.table.unknowns (take s.fewer K) s.earlier
  same_earlier h = (was.earlier_within h, was.earlier_kept h)

  pub copied_earlier : (copy : LaneVertex) → IsTrue s.is_kept → copy ≡ s.kept → (s.known ≤ length K) × IsEndedLanes copy.table.unknowns (take s.known K) copy
  copied_earlier copy h e = rw e (was.within h, subst (λ (v : ℕ). IsEndedLanes v (take s.known K) s.kept) (sym (was.kept h).kept.unknowns) (was.kept h))

  -- a run that is kept is begun
  pub begun_kept : (now : LaneState) → IsTrue s.is_kept → now.known ≡ s.known → now.kept ≡ s.kept → IsBegun n K now
  begun_kept now h e f = record {
    within = omega (arith, e, was.within h);
    kept = subst (λ (k : ℕ). IsKeptLanes n (take k K) now.kept) (sym e) (subst (IsKeptLanes n (take s.known K)) (sym f) (was.kept h).kept);
  }

  -- the kept run of all forms with one form more
  pub question : (c z : List ℤ) → IsTrue s.tried → IsTrue s.is_kept → IsNarrow n c → z ≡ lanes_of c → IsQuestion n K c s.forms z s.kept
  question c z tried h narrow e = record {
    kept = subst (λ (l : List (List ℤ)). IsEndedLanes n l s.kept) (take_all s.known K (omega (arith, was.tried_all tried h))) (was.kept h);
    narrow = narrow;
    forms = was.forms ∙ ap all_lanes (take_all (length s.forms) K (omega (arith, was.tried_forms tried h)));
    form = e;
  }

-- it was tried to make the run of all forms
pub asking_made : (n : ℕ) (K : List (List ℤ)) (s now : LaneState) → IsAsking n K (unkept s) → (IsTrue now.is_kept → IsMade n K s)
    → now.forms ≡ s.forms → now.kept ≡ s.kept → now.known ≡ length K → now.is_earlier ≡ s.is_earlier → now.fewer ≡ s.fewer → now.earlier ≡ s.earlier → IsAsking n K now
asking_made n K s now was made forms kept known is_earlier fewer earlier = record {
  number = rw forms was.number;
  forms = rw forms was.forms;
  within = λ h. omega (arith, known);
  kept = λ h. subst (λ (l : List (List ℤ)). IsEndedLanes n l now.kept) (sym (take_all now.known K (omega (arith, known)))) (subst (IsEndedLanes n K) (sym kept) (made h).kept);
  earlier_within = λ h. rw fewer (was.earlier_within (rw is_earlier at h));
  earlier_kept = λ h. rw (fewer, earlier) (was.earlier_kept (rw is_earlier at h));
  tried_forms = λ t h. ap length (forms ∙ (made h).forms) ∙ length-map K lanes_of;
  tried_all = λ t h. known;
}

pub told : {A : Type 0} {P Q : A → Type 0} (o : Option A) → IfSome o P → ((a : A) → P a → Q a) → IfSome o Q
told None h f = h
told (Some a) h f = f a h
