-- The forms at places among numbers, where more numbers come behind these.
use Rattle.node_turn.proofs.Words.{◌≡◌, ◌∙◌, ◌⊎◌, inl, inr, refl, ap, ◌+◌, ◌-◌, ◌<◌, ◌≤◌, ℕ, ℤ, Bool, true, false, List, [], ◌∷◌, ◌++◌, length, map, take, drop, slice_range, get_or, arith, length-drop, All, Contains, if◌then◌else◌, take-append-le, drop-append-le, get_or-map, map-append, length-map, take_all, drop-append_seam, All-head, All-tail, Counts, NonnegativePlace}
use Rattle.node_turn.specs.KnownPlaces.{form_at, IsPlaceIn}

module _ (ns es : List ℤ) where
  range_on : (a b : ℕ) → a ≤ b → b ≤ length ns → slice_range (ns ++ es) a b ≡ slice_range ns a b
  range_on a b order bound =
      ap (λ (xs : List ℤ). take (b - a) xs) (drop-append-le a ns es (omega (arith, order, bound)))
      ∙ take-append-le (b - a) (drop a ns) es (omega (arith, order, bound, length-drop a ns))

  form_on : (p : NonnegativePlace) → IsPlaceIn ns p → form_at (ns ++ es) p ≡ form_at ns p
  form_on p h = ap (λ (f : List ℤ). record { form = f; counts = p.counts }) (range_on p.start p.end h.order h.bound)

  pub forms_on : (ps : List NonnegativePlace) → All (IsPlaceIn ns) ps → map (form_at (ns ++ es)) ps ≡ map (form_at ns) ps
  forms_on [] h = refl
  forms_on (p ∷ ps) h = rw (form_on p (All-head (IsPlaceIn ns) p ps h), forms_on ps (All-tail (IsPlaceIn ns) p ps h)) refl

-- the place of entries behind the numbers
abbrev pub place_of : List ℤ → List ℤ → ℕ → Counts → NonnegativePlace
place_of ns es key counts = record { start = length ns; end = length ns + length es; key = key; counts = counts }

module _ (ns es : List ℤ) (key : ℕ) (counts : Counts) where
  form_behind : form_at (ns ++ es) (place_of ns es key counts) ≡ record { form = es; counts = counts }
  form_behind =
      let size : length ns + length es - length ns ≡ length es = omega arith in
      ap (λ (f : List ℤ). record { form = f; counts = counts }) (ap (λ (xs : List ℤ). take (length ns + length es - length ns) xs) (drop-append_seam ns es) ∙ take_all (length ns + length es - length ns) es (omega (arith, size)))

  pub forms_more : (ps : List NonnegativePlace) → All (IsPlaceIn ns) ps → map (form_at (ns ++ es)) (ps ++ place_of ns es key counts ∷ []) ≡ map (form_at ns) ps ++ record { form = es; counts = counts } ∷ []
  forms_more ps h = rw (map-append (form_at (ns ++ es)) ps (place_of ns es key counts ∷ []), forms_on ns es ps h, form_behind) refl

-- what is known once the entries are appended, and their place is pushed or not
module _ (ns es : List ℤ) (key : ℕ) (counts : Counts) (ps : List NonnegativePlace) (h : All (IsPlaceIn ns) ps) (ms : List ℤ) (qs : List NonnegativePlace) (start end : ℕ) where
  pub forms_after : (pushed : Bool) → ms ≡ ns ++ es → start ≡ length ns → end ≡ length ns + length es
      → qs ≡ (if pushed then ps ++ record { start = start; end = end; key = key; counts = counts } ∷ [] else ps)
      → (map (form_at ms) qs ≡ map (form_at ns) ps ++ record { form = es; counts = counts } ∷ []) ⊎ (map (form_at ms) qs ≡ map (form_at ns) ps)
  forms_after true m a b q = inl (rw (m, q, a, b) (forms_more ns es key counts ps h))
  forms_after false m a b q = inr (rw (m, q) (forms_on ns es ps h))

-- the form of a place in the list is in the list of forms
pub form_within : (ns : List ℤ) (ps : List NonnegativePlace) (i : ℕ) (d : NonnegativePlace) (es : List ℤ) → i < length ps → slice_range ns (get_or ps i d).start (get_or ps i d).end ≡ es
    → Contains (map (form_at ns) ps) (record { form = es; counts = (get_or ps i d).counts })
form_within ns ps i d es h same =
    let form : form_at ns (get_or ps i d) ≡ record { form = es; counts = (get_or ps i d).counts } = ap (λ (f : List ℤ). record { form = f; counts = (get_or ps i d).counts }) same in
    (i, omega (arith, h, length-map ps (form_at ns)), get_or-map (form_at ns) ps i d (record { form = es; counts = (get_or ps i d).counts }) h ∙ form)
