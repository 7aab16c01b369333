-- A row with another put in, solved for a column.
use Rattle.scaled_laws.proofs.Words.{◌≡◌, ◌∙◌, refl, ap, sym, ℕ, zero, suc, ℤ, pos, ◌-ℤ◌, ◌*ℤ◌, arith, List, [], ◌∷◌, length, ints, slice_set, entry, combine, scale, set_scaled, scale_one, *ℤ_comm}
use Rattle.scaled_laws.specs.Turned.{turned}

pub turned_made : (l : ℤ) (p : List ℤ) (c : ℕ) (old mid new : List ℤ) → scale l mid ≡ combine (entry p c) old (entry old c) p → new ≡ slice_set mid c (entry old c) → scale l new ≡ turned l p c old
turned_made l p c old mid new e f =
    ap (scale l) f ∙ sym (set_scaled l mid c (entry old c))
    ∙ ap (λ (zs : List ℤ). slice_set zs c (l *ℤ entry old c)) e
    ∙ ap (slice_set (combine (entry p c) old (entry old c) p) c) (*ℤ_comm l (entry old c))

combine_none : (a : ℤ) (r s : List ℤ) → length r ≡ length s → combine a r (pos 0) s ≡ scale a r
combine_none a [] s e = refl
combine_none a (x ∷ r) [] e = absurd (omega arith)
combine_none a (x ∷ r) (y ∷ s) e = rw (less a x y, combine_none a r s (omega arith)) refl
  where
    less : (a x y : ℤ) → a *ℤ x -ℤ pos 0 *ℤ y ≡ a *ℤ x
    less a x y = omega (arith, ints)

-- a row that is 0 in the column stays where the denominator stays
pub turned_none : (l : ℤ) (p : List ℤ) (c : ℕ) (old : List ℤ) → length old ≡ length p → entry old c ≡ pos 0 → entry p c ≡ l → scale l old ≡ turned l p c old
turned_none l p c old e none is =
    sym (set_same l old c none)
    ∙ ap (λ (zs : List ℤ). slice_set zs c (pos 0 *ℤ l)) (sym (ap (λ (a : ℤ). combine a old (pos 0) p) is ∙ combine_none l old p e))
    ∙ ap (λ (b : ℤ). slice_set (combine (entry p c) old b p) c (b *ℤ l)) (sym none)
  where
    zero_product : (l z : ℤ) → z ≡ pos 0 → pos 0 *ℤ l ≡ l *ℤ z
    zero_product l z e = rw e (omega (arith, ints))

    set_same : (l : ℤ) (xs : List ℤ) (c : ℕ) → entry xs c ≡ pos 0 → slice_set (scale l xs) c (pos 0 *ℤ l) ≡ scale l xs
    set_same l [] c e = refl
    set_same l (x ∷ xs) zero e = rw (zero_product l x e) refl
    set_same l (x ∷ xs) (suc c) e = ap (λ (zs : List ℤ). (l *ℤ x) ∷ zs) (set_same l xs c e)

pub scaled_one : (l : ℤ) (new made : List ℤ) → l ≡ pos 1 → new ≡ made → scale l new ≡ made
scaled_one l new made e f = ap (λ (z : ℤ). scale z new) e ∙ scale_one new ∙ f
