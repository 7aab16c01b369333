-- What is seen of forms that are looked at one by one, and of those that are passed over.
use Rattle.form_run.proofs.Words.{◌≡◌, ◌∙◌, refl, ap, sym, subst, ℕ, zero, suc, ◌+◌, ◌-◌, ◌<◌, ◌≤◌, ◌⊎◌, inl, inr, ℤ, pos, ◌≤ℤ◌, ◌<ℤ◌, arith, ints, List, [], length, map, get_or, TableauRows, place, over, Basis, IsRead, valued, read, negative_from, All, IsAbove, ValuesFrom, IsBelowAt, NoneLess, NumberLists, value_at, behind, Some}
use Rattle.std.proofs.lemmas.Bool.{cases_eq, cases_lt}
use Rattle.std.proofs.lemmas.List.{get_or_default}
use Rattle.form_run.proofs.Below.{form_above, form_negative}

-- one form more, whose value is no less than z, which is no more than the number before
pub seen_more : (t : TableauRows) (b : Basis) (forms : List (List ℤ)) (i j : ℕ) (y z v : ℤ) (f : List ℤ) → j < length forms → f ≡ get_or forms j [] → v ≡ valued t b f → ValuesFrom t b forms i j y → z ≤ℤ y → z ≤ℤ v → ValuesFrom t b forms i (j + 1) z
seen_more t b forms i j y z v f lt is value before le here k d from to = by (cases_eq k j)
  where
    by : (k ≡ j) ⊎ (k ≡ j → ⊥) → z ≤ℤ (valued t b (get_or forms k d))
    by (inl e) =
        let same : f ≡ get_or forms k d = is ∙ get_or_default forms j [] d lt ∙ ap (λ (x : ℕ). get_or forms x d) (sym e) in
        subst (λ (g : List ℤ). z ≤ℤ (valued t b g)) same (subst (λ (x : ℤ). z ≤ℤ x) value here)
    by (inr not) = omega (arith, ints, le, before k d from (omega (arith, to, not)))

-- the first form whose value is below 0
pub seen_below : (t : TableauRows) (b : Basis) (forms : List (List ℤ)) (i j k : ℕ) (y v : ℤ) (f : List ℤ) → i ≤ k → k < j → j ≤ length forms → f ≡ get_or forms k [] → v ≡ valued t b f → pos 0 ≤ℤ y → ValuesFrom t b forms i k y → v <ℤ pos 0
    → IsBelowAt t b forms i j k
seen_below t b forms i j k y v f after inside within is value above before under = record {
  after = after;
  inside = inside;
  first = λ x d from to. omega (arith, ints, above, before x d from to);
  below = λ d.
      let same : f ≡ get_or forms k d = is ∙ get_or_default forms k [] d (omega (arith, inside, within)) in
      subst (λ (g : List ℤ). (valued t b g) <ℤ pos 0) same (subst (λ (x : ℤ). x <ℤ pos 0) value under);
}

-- no form from i on in front of j is below 0
pub above_all : (t : TableauRows) (b : Basis) (forms : List (List ℤ)) → All (IsRead t b) forms → (i n : ℕ) → i + n ≤ length forms → ValuesFrom t b forms i (i + n) (pos 0) → IsAbove t b forms i → IsAbove t b forms (i + n)
above_all t b forms h i zero le values above = let none : i ≡ i + 0 = omega arith in subst (IsAbove t b forms) none above
above_all t b forms h i (suc n) le values above =
    let more : (i + 1) + n ≡ i + suc n = omega arith in
    let lt : i < length forms = omega (arith, le) in
    let one : IsAbove t b forms (i + 1) = record {
      within = omega (arith, lt);
      first = form_above t b forms h (length t.rows) i lt _ refl (valued t b _) refl (values i [] (omega arith) (omega arith)) above.first;
    } in
    subst (IsAbove t b forms) more (above_all t b forms h (i + 1) n (omega (arith, le)) (λ k d from to. values k d (omega (arith, from)) (omega (arith, to))) one)

-- the first form that is below 0
module _ (t : TableauRows) (b : Basis) (forms : List (List ℤ)) (h : All (IsRead t b) forms) (i j k : ℕ) (inside : j ≤ length forms) (above : IsAbove t b forms i) (seen : IsBelowAt t b forms i j k) where
  pub above_here : IsAbove t b forms k
  above_here =
      let n : i + (k - i) ≡ k = omega (arith, seen.after) in
      subst (IsAbove t b forms) n (above_all t b forms h i (k - i) (omega (arith, n, inside, seen.inside)) (λ x d from to. seen.first x d from (omega (arith, to, n))) above)

  pub below_here : behind (length t.rows) (Some k) ≡ negative_from (length t.rows) (map (read t b) forms)
  below_here =
      form_negative t b forms h (length t.rows) k (omega (arith, inside, seen.inside)) _ refl (valued t b _) refl (seen.below []) above_here.first

-- none from i on in front of j is
pub above_seen : (t : TableauRows) (b : Basis) (forms : List (List ℤ)) → All (IsRead t b) forms → (i j : ℕ) (z : ℤ) → i ≤ j → j ≤ length forms → pos 0 ≤ℤ z → ValuesFrom t b forms i j z → IsAbove t b forms i → IsAbove t b forms j
above_seen t b forms h i j z le inside from_zero values above =
    let n : i + (j - i) ≡ j = omega (arith, le) in
    subst (IsAbove t b forms) n (above_all t b forms h i (j - i) (omega (arith, n, inside)) (λ x d from to. omega (arith, ints, from_zero, values x d from (omega (arith, to, n)))) above)

-- what was seen of a block is kept by its mark
pub none_less : (t : TableauRows) (b : Basis) (l : NumberLists) (here : List ℤ) (i j : ℕ) (z : ℤ) → here ≡ over b.scale (place 0) t.rows → l.size ≡ t.unknowns + 1 → (j < length l.lists → j ≡ i + 64) → ValuesFrom t b l.lists i j z → NoneLess l here b.scale i (i + 64) z
none_less t b l here i j z is size whole values k d from to inside =
    let n : l.size - 1 ≡ t.unknowns = omega (arith, size) in
    let v : z ≤ℤ (valued t b (get_or l.lists k d)) = values k d from (by (cases_lt j (length l.lists))) in
    subst (λ (m : ℕ). z ≤ℤ (value_at m here b.scale (get_or l.lists k d))) (sym n) (subst (λ (v : List ℤ). z ≤ℤ (value_at t.unknowns v b.scale (get_or l.lists k d))) (sym is) v)
  where
    by : (j < length l.lists) ⊎ (length l.lists ≤ j) → k < j
    by (inl lt) = omega (arith, whole lt, to)
    by (inr le) = omega (arith, inside, le)

-- nor of a block of which a mark tells it
pub above_marked : (t : TableauRows) (b : Basis) (l : NumberLists) (here : List ℤ) (i j : ℕ) → here ≡ over b.scale (place 0) t.rows → l.size ≡ t.unknowns + 1 → j ≤ i + 64 → j ≤ length l.lists → NoneLess l here b.scale i (i + 64) (pos 0) → ValuesFrom t b l.lists i j (pos 0)
above_marked t b l here i j is size le inside none k d from to =
    let n : l.size - 1 ≡ t.unknowns = omega (arith, size) in
    let z : pos 0 ≤ℤ (value_at (l.size - 1) here b.scale (get_or l.lists k d)) = none k d from (omega (arith, to, le)) (omega (arith, to, inside)) in
    subst (λ (m : ℕ). pos 0 ≤ℤ (value_at m (over b.scale (place 0) t.rows) b.scale (get_or l.lists k d))) n (subst (λ (v : List ℤ). pos 0 ≤ℤ (value_at (l.size - 1) v b.scale (get_or l.lists k d))) is z)
