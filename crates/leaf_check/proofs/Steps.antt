-- The last form of a refutation, the steps before it, and forms read over all places.
use Rattle.leaf_check.proofs.Words.{replicate, length-map, get_or-map, coefficients, constant, widen_to, ◌≡◌, refl, ap, ap₂, sym, ◌∙◌, ℕ, suc, ◌+◌, ◌-◌, ◌<◌, ℤ, List, [], ◌∷◌, ◌++◌, length, Bool, Ok, Err, Option, Some, None, IfSome, All, arith, length-append, take, drop, get_or, pos, drop_more, drop_all, slice_index_or, ◌>>=◌, Step, CheckFault, Checks, spot, holds, after_step, after_steps, check_refutation, is_absurd, ends_absurd, take-append-drop, map-append, take-map, spread_absurd, widen_same, length-coefficients, read_over, absurd_after, absurd_by}
use Rattle.std.proofs.lemmas.List.Elements.{All-head, All-tail}

pub last_absurd : (known : List (List ℤ)) (d : List ℤ) → 0 < length known → is_absurd (slice_index_or known (length known - 1) d) ≡ ends_absurd known
last_absurd [] d h = absurd (omega arith)
last_absurd (c ∷ []) d h = refl
last_absurd (c ∷ e ∷ known) d h =
    let last : length (c ∷ e ∷ known) - 1 ≡ suc (length (e ∷ known) - 1) = omega arith in
    ap (λ (n : ℕ). is_absurd (slice_index_or (c ∷ e ∷ known) n d)) last ∙ last_absurd (e ∷ known) d (omega arith)

-- forms over all places
pub over_all : (w : ℕ) (forms : List (List ℤ)) → All (λ c. length c ≡ w + 1) forms → read_over w forms ≡ forms
over_all w [] h = refl
over_all w (c ∷ cs) h =
    ap₂ (λ (x : List ℤ) (xs : List (List ℤ)). x ∷ xs) (widen_same w c (All-head (λ (c : List ℤ). length c ≡ w + 1) c cs h)) (over_all w cs (All-tail (λ (c : List ℤ). length c ≡ w + 1) c cs h))

pub joined_over : (w : ℕ) (old made : List (List ℤ)) → All (λ c. length c ≡ w + 1) made → read_over w (old ++ made) ≡ read_over w old ++ made
joined_over w old made h = map-append (widen_to w) old made ∙ ap (λ (forms : List (List ℤ)). read_over w old ++ forms) (over_all w made h)

pub take_over : (w n : ℕ) (forms : List (List ℤ)) → read_over w (take n forms) ≡ take n (read_over w forms)
take_over w n forms = sym (take-map (widen_to w) n forms)

absurd_over : (w : ℕ) (c : List ℤ) → is_absurd (widen_to w c) ≡ is_absurd c
absurd_over w c =
    ap (λ (n : ℕ). is_absurd (coefficients c ++ replicate (w - n) (pos 0) ++ constant c ∷ [])) (sym (length-coefficients c))
    ∙ sym (spread_absurd w (coefficients c) (constant c))

pub last_absurd_over : (w : ℕ) (forms : List (List ℤ)) (d : List ℤ) → 0 < length forms → is_absurd (slice_index_or forms (length forms - 1) d) ≡ ends_absurd (read_over w forms)
last_absurd_over w forms d h =
    let long : length (read_over w forms) ≡ length forms = length-map forms (widen_to w) in
    sym (absurd_over w (slice_index_or forms (length forms - 1) d))
    ∙ ap is_absurd (sym (get_or-map (widen_to w) forms (length forms - 1) d (widen_to w d) (omega (arith, h))))
    ∙ ap (λ (n : ℕ). is_absurd (slice_index_or (read_over w forms) (n - 1) (widen_to w d))) (sym long)
    ∙ last_absurd (read_over w forms) (widen_to w d) (omega (arith, long, h))

-- ---- the last step

bound_again : {A B C : Type 0} (x : Checks A) (f : A → Checks B) (g : B → Checks C) → ((x >>= f) >>= g) ≡ (x >>= (λ (a : A). f a >>= g))
bound_again (Ok a) f g = refl
bound_again (Err e) f g = refl

bound_same : {A B : Type 0} (x : Checks A) (f g : A → Checks B) → ((a : A) → f a ≡ g a) → (x >>= f) ≡ (x >>= g)
bound_same (Ok a) f g h = h a
bound_same (Err e) f g h = refl

bound_ok : {A : Type 0} (x : Checks A) → (x >>= (λ (a : A). Ok a)) ≡ x
bound_ok (Ok a) = refl
bound_ok (Err e) = refl

module _ (l r w : ℕ) (s : Step) where
  steps_split : (i : ℕ) (known : List (List ℤ)) (front : List Step)
      → after_steps l r i w known (front ++ s ∷ []) ≡ (after_steps l r i w known front >>= (λ (now : List (List ℤ)). after_step (spot l r (i + length front + 1)) w now s))
  steps_split i known [] =
      bound_ok (after_step (spot l r (i + 1)) w known s) ∙ ap (λ (n : ℕ). after_step (spot l r n) w known s) (omega arith)
  steps_split i known (t ∷ front) =
      let at : i + 1 + length front + 1 ≡ i + suc (length front) + 1 = omega arith in
      bound_same (after_step (spot l r (i + 1)) w known t) (λ (now : List (List ℤ)). after_steps l r (i + 1) w now (front ++ s ∷ []))
      (λ (now : List (List ℤ)). after_steps l r (i + 1) w now front >>= (λ (then : List (List ℤ)). after_step (spot l r (i + suc (length front) + 1)) w then s))
      (λ (now : List (List ℤ)). steps_split (i + 1) now front ∙ ap (λ (n : ℕ). after_steps l r (i + 1) w now front >>= (λ (then : List (List ℤ)). after_step (spot l r n) w then s)) at)
      ∙ sym (bound_again (after_step (spot l r (i + 1)) w known t) (λ (now : List (List ℤ)). after_steps l r (i + 1) w now front) (λ (then : List (List ℤ)). after_step (spot l r (i + suc (length front) + 1)) w then s))

  pub ends_split : (known : List (List ℤ)) (steps front : List Step) → steps ≡ front ++ s ∷ []
      → absurd_by l r w known steps ≡ (after_steps l r 0 w known front >>= (λ (now : List (List ℤ)). absurd_after (spot l r (length steps)) w now s))
  ends_split known steps front is =
      let at : 0 + length front + 1 ≡ length steps = (let e = ap length is in let f = length-append front (s ∷ []) in omega (arith, e, f)) in
      ap (absurd_by l r w known) is
      ∙ ap (λ (x : Checks (List (List ℤ))). x >>= (λ (forms : List (List ℤ)). Ok (ends_absurd forms)))
      (steps_split 0 known front ∙ ap (λ (n : ℕ). after_steps l r 0 w known front >>= (λ (now : List (List ℤ)). after_step (spot l r n) w now s)) at)
      ∙ bound_again (after_steps l r 0 w known front) (λ (now : List (List ℤ)). after_step (spot l r (length steps)) w now s) (λ (forms : List (List ℤ)). Ok (ends_absurd forms))

-- the steps before the last, and the last
module _ (steps front : List Step) (some : 0 < length steps) (is_front : front ≡ take (length steps - 1) steps) where
  last_one : (d : Step) → drop (length steps - 1) steps ≡ get_or steps (length steps - 1) d ∷ []
  last_one d =
      drop_more steps (length steps - 1) d (omega (arith, some))
      ∙ ap (λ (rest : List Step). get_or steps (length steps - 1) d ∷ rest) (drop_all (length steps - 1 + 1) steps (omega (arith, some)))

  pub split_last : (d : Step) → steps ≡ front ++ get_or steps (length steps - 1) d ∷ []
  split_last d = sym (take-append-drop (length steps - 1) steps) ∙ ap₂ (λ (x y : List Step). x ++ y) (sym is_front) (last_one d)

  pub split_at_last : (back : List Step) (s : Step) → back ≡ drop (length steps - 1) steps → s ≡ get_or back 0 s → steps ≡ front ++ s ∷ []
  split_at_last back s b e =
      split_last s ∙ ap (λ (t : Step). front ++ t ∷ []) (sym (e ∙ ap (λ (l : List Step). get_or l 0 s) (b ∙ last_one s)))

then_refused : {A B : Type 0} (o : Option CheckFault) (x : Checks A) (a : A) (f : A → Checks B) (y : Checks B) → y ≡ (x >>= f) → x ≡ Ok a → IfSome o (λ e. f a ≡ Err e) → IfSome o (λ e. y ≡ Err e)
then_refused None x a f y is made h = tt
then_refused {A = A} (Some e) x a f y is made h = is ∙ ap (λ (z : Checks A). z >>= f) made ∙ h

first_refused : {A B : Type 0} (o : Option CheckFault) (x : Checks A) (f : A → Checks B) (y : Checks B) → y ≡ (x >>= f) → IfSome o (λ e. x ≡ Err e) → IfSome o (λ e. y ≡ Err e)
first_refused None x f y is h = tt
first_refused {A = A} (Some e) x f y is h = is ∙ ap (λ (z : Checks A). z >>= f) h

module _ (l r w : ℕ) (known : List (List ℤ)) (steps front : List Step) (o : Option CheckFault) where
  pub front_refused : 0 < length steps → front ≡ take (length steps - 1) steps → IfSome o (λ f. after_steps l r 0 w known front ≡ Err f) → IfSome o (λ f. absurd_by l r w known steps ≡ Err f)
  front_refused some is h =
      let s : Step = get_or steps (length steps - 1) (record { divisor = pos 1; terms = [] }) in
      first_refused o (after_steps l r 0 w known front) (λ (now : List (List ℤ)). absurd_after (spot l r (length steps)) w now s) (absurd_by l r w known steps)
      (ends_split l r w s known steps front (split_last steps front some is (record { divisor = pos 1; terms = [] }))) h

  pub last_refused : (s : Step) (now : List (List ℤ)) → steps ≡ front ++ s ∷ [] → after_steps l r 0 w known front ≡ Ok now
      → IfSome o (λ f. absurd_after (spot l r (length steps)) w now s ≡ Err f) → IfSome o (λ f. absurd_by l r w known steps ≡ Err f)
  last_refused s now is made h =
      then_refused o (after_steps l r 0 w known front) now (λ (now : List (List ℤ)). absurd_after (spot l r (length steps)) w now s) (absurd_by l r w known steps) (ends_split l r w s known steps front is) made h

pub last_made : (l r w : ℕ) (known : List (List ℤ)) (steps front : List Step) (s : Step) (now : List (List ℤ)) (b : Bool) → steps ≡ front ++ s ∷ [] → after_steps l r 0 w known front ≡ Ok now
    → absurd_after (spot l r (length steps)) w now s ≡ Ok b → absurd_by l r w known steps ≡ Ok b
last_made l r w known steps front s now b is made h =
    ends_split l r w s known steps front is
    ∙ ap (λ (x : Checks (List (List ℤ))). x >>= (λ (now : List (List ℤ)). absurd_after (spot l r (length steps)) w now s)) made
    ∙ h

-- ---- the refutation, by its last form

module _ (l r w : ℕ) (known : List (List ℤ)) (steps : List Step) where
  abbrev by : Checks (Unit {0})
  by = check_refutation l r w (record { known = known; listed = [] }) steps

  decided : (x : Checks (List (List ℤ))) (b : Bool) → (x >>= (λ (forms : List (List ℤ)). Ok (ends_absurd forms))) ≡ Ok b → (x >>= (λ (forms : List (List ℤ)). holds (spot l r (length steps)) (ends_absurd forms))) ≡ holds (spot l r (length steps)) b
  decided (Ok forms) b h = let same : ends_absurd forms ≡ b = cc in rw same refl
  decided (Err e) b h = cc

  failed : (x : Checks (List (List ℤ))) (f : CheckFault) → (x >>= (λ (forms : List (List ℤ)). Ok (ends_absurd forms))) ≡ Err f → (x >>= (λ (forms : List (List ℤ)). holds (spot l r (length steps)) (ends_absurd forms))) ≡ Err f
  failed (Ok forms) f h = cc
  failed (Err e) f h = cc
