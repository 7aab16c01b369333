-- Steps that refutations share, one after another.
use Rattle.certificate_check.proofs.Words.{◌≡◌, refl, ap, ap₂, sym, ◌∙◌, ℕ, zero, suc, ◌+◌, ◌<◌, ◌≤◌, ℤ, Bool, true, false, ◌&&◌, List, [], ◌∷◌, ◌++◌, length, map, take, drop, get_or, replicate, append_assoc, append-nil, arith, inl, inr, length-append, length-map, length-replicate, length-drop, drop_more, drop_all, take_more, take_all, map-append, get_or-map, same_number, Step, Refutation, LeafProofs, Premises, lowered, renumbered, moved_index, shareable, same_terms, common_front, shared_by, after_shared, IsCommon, same_number_yes, same_number_no, sized, counts_from}
use Rattle.std.proofs.Math.Bool.{and-false}
use Rattle.std.proofs.lemmas.Bool.{cases_lt}
use Rattle.check_laws.proofs.Fronts.{shared-fronts, shareable-short}

-- ---- pairs

pub other_lengths : (ts us : List (ℤ × ℤ)) → ¬ (length ts ≡ length us) → false ≡ same_terms ts us
other_lengths [] [] h = absurd (h refl)
other_lengths (t ∷ ts) (u ∷ us) h = sym (and-false (same_number t.0 u.0 && same_number t.1 u.1)) ∙ ap (λ (b : Bool). same_number t.0 u.0 && same_number t.1 u.1 && b) (other_lengths ts us (λ k. h (omega (arith, k))))
other_lengths _ _ h = refl

module _ (ts us : List (ℤ × ℤ)) (i : ℕ) (d : ℤ × ℤ) (h : i < length ts) (k : i < length us) where
  heads : same_terms (drop i ts) (drop i us) ≡ (same_number (get_or ts i d).0 (get_or us i d).0 && same_number (get_or ts i d).1 (get_or us i d).1 && same_terms (drop (i + 1) ts) (drop (i + 1) us))
  heads = ap₂ same_terms (drop_more ts i d h) (drop_more us i d k)

  pub terms_same : (get_or ts i d).0 ≡ (get_or us i d).0 → (get_or ts i d).1 ≡ (get_or us i d).1 → same_terms (drop i ts) (drop i us) ≡ same_terms (drop (i + 1) ts) (drop (i + 1) us)
  terms_same e f =
      heads ∙ ap₂ (λ (a b : Bool). a && b && same_terms (drop (i + 1) ts) (drop (i + 1) us)) (same_number_yes (get_or ts i d).0 (get_or us i d).0 e) (same_number_yes (get_or ts i d).1 (get_or us i d).1 f)

  pub index_differs : ¬ ((get_or ts i d).0 ≡ (get_or us i d).0) → same_terms (drop i ts) (drop i us) ≡ false
  index_differs e = heads ∙ ap (λ (a : Bool). a && same_number (get_or ts i d).1 (get_or us i d).1 && same_terms (drop (i + 1) ts) (drop (i + 1) us)) (same_number_no (get_or ts i d).0 (get_or us i d).0 e)

  pub multiplier_differs : ¬ ((get_or ts i d).1 ≡ (get_or us i d).1) → same_terms (drop i ts) (drop i us) ≡ false
  multiplier_differs e = heads ∙ ap (λ (a : Bool). same_number (get_or ts i d).0 (get_or us i d).0 && a && same_terms (drop (i + 1) ts) (drop (i + 1) us)) (same_number_no (get_or ts i d).1 (get_or us i d).1 e) ∙ last (same_number (get_or ts i d).0 (get_or us i d).0)
    where
      last : (b : Bool) → (b && false && same_terms (drop (i + 1) ts) (drop (i + 1) us)) ≡ false
      last true = refl
      last false = refl

-- ---- steps with which two refutations begin

no_more : (ys : Refutation) → common_front ys [] ≡ []
no_more [] = refl
no_more (y ∷ ys) = refl

pub common_end : (xs ys : Refutation) (i : ℕ) → (length xs ≤ i) → take i xs ++ common_front (drop i xs) (drop i ys) ≡ take i xs
common_end xs ys i h = ap (λ (zs : Refutation). take i xs ++ common_front zs (drop i ys)) (drop_all i xs h) ∙ append-nil (take i xs)

pub common_end_right : (xs ys : Refutation) (i : ℕ) → (length ys ≤ i) → take i xs ++ common_front (drop i xs) (drop i ys) ≡ take i xs
common_end_right xs ys i h = ap (λ (zs : Refutation). take i xs ++ zs) (ap (common_front (drop i xs)) (drop_all i ys h) ∙ no_more (drop i xs)) ∙ append-nil (take i xs)

-- ---- steps that one can share

module _ (b o : ℕ) (xs : Refutation) (i : ℕ) where
  abbrev pub low : Step → Step
  low = renumbered (lowered b o)

  few : (ys : Refutation) → length ys ≤ 1 → shareable b o ys ≡ []
  few (y ∷ z ∷ ys) h = absurd (omega arith)
  few _ h = refl

  pub share_end : length (drop i xs) ≤ 1 → map low (take i xs) ++ shareable b o (drop i xs) ≡ map low (take i xs)
  share_end h = ap (λ (zs : Refutation). map low (take i xs) ++ zs) (few (drop i xs) h) ∙ append-nil (map low (take i xs))

-- ---- all refutations of a leaf

module _ (b : ℕ) (sizes : List ℕ) (xs : List Refutation) (r d : ℕ) (x : Refutation) where
  size_at : r < length sizes → drop r (map sized sizes) ≡ sized (get_or sizes r d) ∷ drop (r + 1) (map sized sizes)
  size_at h =
      let count = length-map sizes sized in
      drop_more (map sized sizes) r (sized d) (omega arith) ∙ ap (λ (o : Premises). o ∷ drop (r + 1) (map sized sizes)) (get_or-map sized sizes r d (sized d) h)

  known_size : length (sized (get_or sizes r d)).known ≡ get_or sizes r d
  known_size = length-replicate (get_or sizes r d) []

  pub shared_before : r + 1 < length sizes → length xs ≡ length sizes
      → shared_by b (drop r (map sized sizes)) (drop r xs) ≡ common_front (shareable b (get_or sizes r d) (get_or xs r x)) (shared_by b (drop (r + 1) (map sized sizes)) (drop (r + 1) xs))
  shared_before h f =
      let count = length-map sizes sized in
      let more = drop_more (map sized sizes) (r + 1) (sized d) (omega arith) in
      let rest = shared_by b (drop (r + 1) (map sized sizes)) (drop (r + 1) xs) in
      ap₂ (shared_by b) (size_at (omega arith) ∙ ap (λ (os : List Premises). sized (get_or sizes r d) ∷ os) more) (drop_more xs r x (omega arith))
      ∙ ap₂ (λ (n : ℕ) (os : List Premises). common_front (shareable b n (get_or xs r x)) (shared_by b os (drop (r + 1) xs))) known_size (sym more)

common_within : (b : ℕ) (front : Refutation) (os : List Premises) (xs : List Refutation) (r : ℕ) (d : Refutation) → length xs ≡ length os → r < length xs → IsCommon b front os xs → length front ≤ length (get_or xs r d)
common_within b front os [] r d e h k = absurd (omega arith)
common_within b front [] (x ∷ xs) r d e h k = absurd (omega arith)
common_within b front (o ∷ os) (x ∷ xs) zero d e h k =
    let f = k.0 in
    let short = shareable-short b (length o.known) x in
    let whole : length (shareable b (length o.known) x) ≡ length front + length f.rest = ap length f.is ∙ length-append front f.rest in
    omega arith
common_within b front (o ∷ os) (x ∷ xs) (suc r) d e h k = common_within b front os xs r d (omega arith) (omega arith) k.1

pub shared_within : (b : ℕ) (sizes : List ℕ) (xs : List Refutation) (r : ℕ) (d : Refutation) → length xs ≡ length sizes → r < length xs → length (shared_by b (map sized sizes) xs) ≤ length (get_or xs r d)
shared_within b sizes xs r d e h =
    let count = length-map sizes sized in
    common_within b (shared_by b (map sized sizes) xs) (map sized sizes) xs r d (omega arith) h (shared-fronts b (map sized sizes) xs)

-- the refutations behind their shared steps, one after another
pub after_at : (b n : ℕ) (sizes : List ℕ) (xs : List Refutation) (r d : ℕ) (x : Refutation) → length xs ≡ length sizes → r < length xs
    → take (r + 1) (after_shared b n (map sized sizes) xs) ≡ take r (after_shared b n (map sized sizes) xs) ++ map (renumbered (moved_index b (get_or sizes r d) n)) (drop n (get_or xs r x)) ∷ []
after_at b n sizes [] r d x e h = absurd (omega arith)
after_at b n [] (y ∷ xs) r d x e h = absurd (omega arith)
after_at b n (s ∷ sizes) (y ∷ xs) zero d x e h = ap (λ (k : ℕ). map (renumbered (moved_index b k n)) (drop n y) ∷ []) (length-replicate s [])
after_at b n (s ∷ sizes) (y ∷ xs) (suc r) d x e h =
    let next : suc r + 1 ≡ suc (r + 1) = omega arith in
    let first = map (renumbered (moved_index b (length (sized s).known) n)) (drop n y) in
    ap (λ (k : ℕ). take k (after_shared b n (map sized (s ∷ sizes)) (y ∷ xs))) next
    ∙ ap (λ (rest : List Refutation). first ∷ rest) (after_at b n sizes xs r d x (omega arith) (omega arith))

pub length-after : (b n : ℕ) (sizes : List ℕ) (xs : List Refutation) → length xs ≡ length sizes → length (after_shared b n (map sized sizes) xs) ≡ length xs
length-after b n [] [] e = refl
length-after b n (s ∷ sizes) (x ∷ xs) e = ap suc (length-after b n sizes xs (omega arith))
length-after b n _ _ e = absurd (omega arith)

-- ---- ends of loops

pub common_done : (xs ys : Refutation) (i : ℕ) → (i < length xs → length ys ≤ i) → common_front xs ys ≡ take i xs ++ common_front (drop i xs) (drop i ys) → take i xs ≡ common_front xs ys
common_done xs ys i h e = elim (cases_lt i (length xs)) [ inl k ↦ sym (e ∙ common_end_right xs ys i (h k)) | inr k ↦ sym (e ∙ common_end xs ys i k) ]

pub share_done : (b o : ℕ) (xs : Refutation) (i : ℕ) → length xs ≤ i + 1 → shareable b o xs ≡ map (low b o xs i) (take i xs) ++ shareable b o (drop i xs) → shareable b o xs ≡ map (low b o xs i) (take i xs)
share_done b o xs i h e = let few_left : length (drop i xs) ≤ 1 = simp length-drop (omega arith) in e ∙ share_end b o xs i few_left

counts_more : (first i : ℕ) → counts_from first (i + 1) ≡ counts_from first i ++ (first + i) ∷ []
counts_more first zero = let e : first ≡ first + 0 = omega arith in ap (λ (n : ℕ). n ∷ []) e
counts_more first (suc i) =
    let e : first + 1 + i ≡ first + suc i = omega arith in
    let m : suc i + 1 ≡ suc (i + 1) = omega arith in
    ap (counts_from first) m ∙ ap (λ (rest : List ℕ). first ∷ rest) (counts_more (first + 1) i ∙ ap (λ (k : ℕ). counts_from (first + 1) i ++ k ∷ []) e)

pub counts_step : (old now : List ℕ) (ones first i : ℕ) → now ≡ old ++ (first + i) ∷ [] → old ≡ replicate ones 1 ++ counts_from first i → now ≡ replicate ones 1 ++ counts_from first (i + 1)
counts_step old now ones first i e h =
    e ∙ ap (λ (xs : List ℕ). xs ++ (first + i) ∷ []) h ∙ append_assoc (replicate ones 1) (counts_from first i) ((first + i) ∷ []) ∙ ap (λ (xs : List ℕ). replicate ones 1 ++ xs) (sym (counts_more first i))

pub mapped_step : {X Y : Type 0} (f : X → Y) (xs : List X) (i : ℕ) (d : X) (old now : List Y) → i < length xs → now ≡ old ++ f (get_or xs i d) ∷ [] → old ≡ map f (take i xs) → now ≡ map f (take (i + 1) xs)
mapped_step {Y = Y} f xs i d old now h e k =
    e ∙ ap (λ (ys : List Y). ys ++ f (get_or xs i d) ∷ []) k ∙ sym (ap (map f) (take_more xs i d h) ∙ map-append f (take i xs) (get_or xs i d ∷ []))

-- ---- more of the loops

pub nothing_shared : (b : ℕ) (sizes : List ℕ) (xs : List Refutation) → length xs ≡ 0 → length sizes ≡ length xs → [] ≡ shared_by b (map sized sizes) xs
nothing_shared b [] xs e f = refl
nothing_shared b (s ∷ sizes) _ e f = absurd (omega arith)

pub shared_step : (b : ℕ) (sizes : List ℕ) (xs : List Refutation) (k d : ℕ) (x : Refutation) (own old now : Refutation) → k + 1 < length sizes → length sizes ≡ length xs
    → own ≡ shareable b (get_or sizes k d) (get_or xs k x) → old ≡ shared_by b (drop (k + 1) (map sized sizes)) (drop (k + 1) xs) → now ≡ common_front own old
    → now ≡ shared_by b (drop k (map sized sizes)) (drop k xs)
shared_step b sizes xs k d x own old now h f e g i = i ∙ ap₂ common_front e g ∙ sym (shared_before b sizes xs k d x h (sym f))

pub moved_step : (b n : ℕ) (sizes : List ℕ) (xs : List Refutation) (r d : ℕ) (x : Refutation) (old now : LeafProofs) (y front : Refutation) → length sizes ≡ length xs → r < length xs
    → now ≡ record old { refutations = old.refutations ++ y ∷ [] } → old ≡ record { shared = front; refutations = take r (after_shared b n (map sized sizes) xs) }
    → y ≡ map (renumbered (moved_index b (get_or sizes r d) n)) (drop n (get_or xs r x)) → now ≡ record { shared = front; refutations = take (r + 1) (after_shared b n (map sized sizes) xs) }
moved_step b n sizes xs r d x old now y front e h f g k =
    f ∙ ap₂ (λ (p : LeafProofs) (z : Refutation). let q : LeafProofs = record p { refutations = p.refutations ++ z ∷ [] } in q) g k
    ∙ ap (λ (rest : List Refutation). let q : LeafProofs = record { shared = front; refutations = rest } in q) (sym (after_at b n sizes xs r d x (sym e) h))

pub moved_all : (b n : ℕ) (sizes : List ℕ) (xs : List Refutation) (r : ℕ) → length sizes ≡ length xs → length xs ≤ r → take r (after_shared b n (map sized sizes) xs) ≡ after_shared b n (map sized sizes) xs
moved_all b n sizes xs r e h = take_all r (after_shared b n (map sized sizes) xs) (omega (arith, length-after b n sizes xs (sym e)))
