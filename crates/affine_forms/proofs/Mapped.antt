-- A list whose first elements were mapped in place.
use Rattle.affine_forms.proofs.Words.{◌≡◌, ℕ, ◌+◌, ◌<◌, List, [], ◌∷◌, ◌++◌, map, length, get_or, set, take, drop, sym, ap, subst, ◌∙◌, arith, append_assoc, All, All-push, drop_more, map_more, set_at, get_or_at, length-map, length-take}

abbrev pub mapped : {X : Type 0} → (X → X) → ℕ → List X → List X
mapped f i old = map f (take i old) ++ drop i old

module _ {X : Type 0} (f : X → X) (old : List X) where
  length_front : (i : ℕ) → i < length old → length (map f (take i old)) ≡ i
  length_front i h = simp (length-map, length-take) (omega arith)

  pub mapped_read : (i : ℕ) (d : X) → i < length old → get_or (mapped f i old) i d ≡ get_or old i d
  mapped_read i d h = rw (drop_more old i d h) (get_or_at (map f (take i old)) (get_or old i d) (drop (i + 1) old) d i (length_front i h))

  mapped_more : (i : ℕ) (d : X) → i < length old → set (mapped f i old) i (f (get_or old i d)) ≡ mapped f (i + 1) old
  mapped_more i d h =
      rw (drop_more old i d h)
      (set_at (map f (take i old)) (get_or old i d) (drop (i + 1) old) (f (get_or old i d)) i (length_front i h)
      ∙ sym (append_assoc (map f (take i old)) (f (get_or old i d) ∷ []) (drop (i + 1) old))
      ∙ ap (λ (front : List X). front ++ drop (i + 1) old) (sym (map_more f old i d h)))

-- one more element is mapped
pub mapped_step : {X : Type 0} (f : X → X) (old now : List X) (i : ℕ) (y d : X) → i < length old → now ≡ mapped f i old → y ≡ f (get_or now i d) → set now i y ≡ mapped f (i + 1) old
mapped_step f old now i y d h e g =
    let read : get_or now i d ≡ get_or old i d = rw e (mapped_read f old i d h) in
    rw (g, read, e) (mapped_more f old i d h)

pub pushed_made : {X Y : Type 0} (f : X → Y) (xs : List X) (found now : List Y) (i : ℕ) (y : Y) (d : X) → i < length xs → now ≡ found ++ y ∷ [] → found ≡ map f (take i xs) → y ≡ f (get_or xs i d) → now ≡ map f (take (i + 1) xs)
pushed_made f xs found now i y d h p e g = p ∙ (rw (e, g) (sym (map_more f xs i d h)))

pub pushed_all : {X : Type 0} (P : X → Type 0) (xs now : List X) (y : X) → now ≡ xs ++ y ∷ [] → All P xs → P y → All P now
pushed_all P xs now y p all e = subst (All P) (sym p) (All-push P xs y all e)
