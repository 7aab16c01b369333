-- Components of one list.
use Rattle.quast.proofs.Words.{◌≡◌, ◌<◌, ◌+◌, ℕ, arith, List, [], ◌∷◌, length, get_or, ap, subst, sym, and_parts, All-head, All, int_le, gcd, gcd_of, same_number, width, Component, is_form, IsComponent, width_of}
use Rattle.std.specs.Prelude.{◌&&◌, pos}
use Rattle.quast.proofs.Conditions.{form_length}

-- the form of a component over w places
pub component-length : (w : ℕ) (c : Component) → IsComponent w c → length c.form ≡ w + 1
component-length w c h =
    form_length w c.form (and_parts (int_le (pos 1) c.den) (is_form w c.form) (and_parts (int_le (pos 1) c.den && is_form w c.form) (same_number (gcd c.den (gcd_of c.form)) (pos 1)) h.scoped).0).1

-- components over w places are over those of the first
pub list-width : (w : ℕ) (cs : List Component) → 0 < length cs → All (IsComponent w) cs → width_of cs ≡ w
list-width w [] some all = absurd (omega arith)
list-width w (c ∷ cs) some all = let e = component-length w c (All-head (IsComponent w) c cs all) in omega arith

pub list-components : (w : ℕ) (cs : List Component) → 0 < length cs → All (IsComponent w) cs → All (IsComponent (width_of cs)) cs
list-components w cs some all = subst (λ (n : ℕ). All (IsComponent n) cs) (sym (list-width w cs some all)) all

-- the width of the first component's form
pub first-width : (cs : List Component) (c : Component) (w : ℕ) → 0 < length cs → c ≡ get_or cs 0 c → w + 1 ≡ length c.form → w ≡ width_of cs
first-width [] c w some is wide = absurd (omega arith)
first-width (x ∷ cs) c w some is wide = let e = ap (λ (y : Component). length y.form) is in omega arith

-- a component over w places is over those that its form has
pub own-width : (w : ℕ) (c : Component) → IsComponent w c → IsComponent (width c.form) c
own-width w c h = let e = component-length w c h in let same : width c.form ≡ w = omega arith in rw same h
