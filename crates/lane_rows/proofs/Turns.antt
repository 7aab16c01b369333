-- Rows of lanes that are turned one after the other.
use Rattle.lane_rows.proofs.Words.{get_or, ◌≡◌, ◌∙◌, ap, sym, subst, ℕ, ◌+◌, ◌*◌, ◌^◌, ◌<◌, ◌≤◌, ℤ, ◌*ℤ◌, unsigned_abs, arith, ◌⊎◌, inl, inr, List, [], length, length-set, All, cases_eq, unsigned_abs-mul, mul-le, get_or-set_same, get_or-set_other, get_or_default, All-set, slice_set, entry, scale, entry_within, AreCovered, AreLanes, AreTurnable, AreTurned, CanTurn, turned}

-- the first k rows are turned, their numbers covered by those of s, and the others are as they were
pub record TurnedTo (l : ℤ) (p : List ℤ) (lane : ℕ) (old now : List (List ℤ)) (k : ℕ) (s : List ℤ) : Type 0 where
  pub long : length now ≡ length old
  pub rows : (j : ℕ) → j < k → scale l (get_or now j []) ≡ turned l p lane (get_or old j [])
  pub left : (j : ℕ) → k ≤ j → get_or now j [] ≡ get_or old j []
  pub lanes : All AreLanes now
  pub within : (j : ℕ) → j < k → AreCovered (get_or now j []) s

pub turned_step : (l : ℤ) (p : List ℤ) (lane : ℕ) (old now new : List (List ℤ)) (k j : ℕ) (s g z : List ℤ) → TurnedTo l p lane old now k s → k < length now → new ≡ slice_set now k z → j ≡ k + 1
    → scale l z ≡ turned l p lane (get_or old k []) → AreLanes z → AreCovered z g → AreCovered s g → TurnedTo l p lane old new j g
turned_step l p lane old now new k j s g z h lt e f made lanes within more = record {
  long = ap length e ∙ length-set now k z ∙ h.long;
  rows = λ i less. subst (λ (zs : List (List ℤ)). scale l (get_or zs i []) ≡ turned l p lane (get_or old i [])) (sym e) (row i (omega (arith, less, f)) (cases_eq i k));
  left = λ i more. ap (λ (zs : List (List ℤ)). get_or zs i []) e ∙ get_or-set_other now k i z [] (λ is. absurd (omega (arith, more, f, is))) ∙ h.left i (omega (arith, more, f));
  lanes = subst (All AreLanes) (sym e) (All-set AreLanes now k z lanes h.lanes);
  within = λ i less. subst (λ (zs : List (List ℤ)). AreCovered (get_or zs i []) g) (sym e) (size i (omega (arith, less, f)) (cases_eq i k));
}
  where
    before : (i k : ℕ) → i < k + 1 → (i ≡ k → ⊥) → i < k
    before i k less not = omega (arith, less, not)

    row : (i : ℕ) → i < k + 1 → (i ≡ k) ⊎ (i ≡ k → ⊥) → scale l (get_or (slice_set now k z) i []) ≡ turned l p lane (get_or old i [])
    row i less (inl is) = subst (λ (x : ℕ). scale l (get_or (slice_set now k z) x []) ≡ turned l p lane (get_or old x [])) (sym is) (ap (scale l) (get_or-set_same now k z [] lt) ∙ made)
    row i less (inr not) = ap (scale l) (get_or-set_other now k i z [] not) ∙ h.rows i (before i k less not)

    size : (i : ℕ) → i < k + 1 → (i ≡ k) ⊎ (i ≡ k → ⊥) → AreCovered (get_or (slice_set now k z) i []) g
    size i less (inl is) = subst (λ (y : List ℤ). AreCovered y g) (sym (ap (λ (y : ℕ). get_or (slice_set now k z) y []) is ∙ get_or-set_same now k z [] lt)) within
    size i less (inr not) = subst (λ (y : List ℤ). AreCovered y g) (sym (get_or-set_other now k i z [] not)) (λ x. omega (arith, h.within i (before i k less not) x, more x))

pub turned_end : (l : ℤ) (p : List ℤ) (lane : ℕ) (old now : List (List ℤ)) (k m g : ℕ) (s : List ℤ) → length now ≤ k → TurnedTo l p lane old now k s → All (λ y. unsigned_abs y ≤ m) s → m ≤ g → AreTurned l p lane old now g
turned_end l p lane old now k m g s le h sizes more = record {
  long = h.long;
  rows = λ j lt. h.rows j (omega (arith, lt, le, h.long));
  lanes = h.lanes;
  within = λ j d lt. subst (λ (y : List ℤ). (i : ℕ) → unsigned_abs (entry y i) ≤ g) (sym (get_or_default now j d [] lt)) (λ i. omega (arith, h.within j (omega (arith, lt, le)) i, entry_within m s i sizes, more));
}

product_below : (a b : ℤ) (m g : ℕ) → unsigned_abs a ≤ m → unsigned_abs b ≤ g → m * g < 2 ^ 30 → unsigned_abs (a *ℤ b) < 2 ^ 30
product_below a b m g h k lt = rw (unsigned_abs-mul a b) (omega (arith, mul-le (unsigned_abs a) (unsigned_abs b) m g h k, lt))

turn_round : (a b : ℕ) → a * b ≡ b * a
turn_round a b = grind arith

-- the products for the next row
pub row_turnable : (l : ℤ) (p : List ℤ) (lane : ℕ) (old now : List (List ℤ)) (k : ℕ) (s x : List ℤ) → CanTurn p old → TurnedTo l p lane old now k s → k < length now → x ≡ get_or now k []
    → AreTurnable (entry p lane) x (entry x lane) p
row_turnable l p lane old now k s x can h lt is =
    let here : x ≡ get_or old k [] = is ∙ h.left k (omega arith) in
    let sizes : (i : ℕ) → unsigned_abs (entry x i) ≤ can.most = subst (λ (y : List ℤ). (i : ℕ) → unsigned_abs (entry y i) ≤ can.most) (sym here) (can.within k [] (omega (arith, lt, h.long))) in
    let round : can.size * can.most < 2 ^ 30 = omega (arith, turn_round can.size can.most, can.bound) in
    record {
      first = λ i. product_below (entry p lane) (entry x i) can.size can.most (can.pivot_within lane) (sizes i) round;
      second = λ i. product_below (entry x lane) (entry p i) can.most can.size (sizes lane) (can.pivot_within i) can.bound;
    }
