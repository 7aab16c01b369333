-- A form over a denominator, both divided by their greatest common divisor, is a component: in lowest terms, with numbers that fit.
use Rattle.quast.proofs.Words.{◌≡◌, refl, ℕ, ◌+◌, ◌<◌, ℤ, pos, ◌≤ℤ◌, arith, List, length, ◌&&◌, IsTrue, ints, and_parts, and_from, length-map, fits, floor_div, gcd, gcd_of, same_number, width, remove, floor_divided, component_without, all_fit, Component, reduced, is_form, Fits, IsComponent, LacksPlace}
use Rattle.std.proofs.Common.{int_le, All}
use Rattle.quast.proofs.Conditions.{is_form_from, one_le_from, all_fit_from}
use Rattle.pip_model.proofs.Gcd.{gcd_between, quotient_positive, lowest, gcd_of-remove}
use Rattle.pip_model.proofs.Vectors.{length-remove}
use Rattle.pip_model.proofs.Fitting.{fits-floor, fit_floors, fit_remove}

-- ---- the component

one_same : (z : ℤ) → z ≡ pos 1 → IsTrue (same_number z (pos 1))
one_same z e = rw e refl

by_divisor : (w : ℕ) (d : ℤ) (cs : List ℤ) (g : ℕ) → gcd d (gcd_of cs) ≡ pos g → pos 1 ≤ℤ d → Fits d → All Fits cs → length cs ≡ w + 1 → IsComponent w (record { den = floor_div d (pos g); form = floor_divided (pos g) cs })
by_divisor w d cs g is some fit all wide =
    let between = rw is at (gcd_between d (gcd_of cs) some) in
    let h : 0 < g = omega (arith, ints, between.0) in
    let den = floor_div d (pos g) in
    let form = floor_divided (pos g) cs in
    record {
      scoped = and_from (int_le (pos 1) den && is_form w form) (same_number (gcd den (gcd_of form)) (pos 1))
          (and_from (int_le (pos 1) den) (is_form w form) (one_le_from den (quotient_positive d (pos g) between.0 between.1)) (is_form_from w form (simp length-map wide)))
          (one_same (gcd den (gcd_of form)) (lowest d cs g is h));
      fits = and_from (fits den) (all_fit form) (fits-floor d g fit) (fit_floors g cs (all_fit_from cs all));
    }

pub reduced-component : (w : ℕ) (d : ℤ) (cs : List ℤ) → pos 1 ≤ℤ d → Fits d → All Fits cs → length cs ≡ w + 1 → IsComponent w (reduced d cs)
reduced-component w d cs some fit all wide = by_divisor w d cs _ refl some fit all wide

-- ---- a component without a coefficient that is 0

pub component-removed : (i : ℕ) (c : Component) → LacksPlace i c → IsComponent (width c.form) c → IsComponent (width (remove i c.form)) (component_without i c)
component-removed i c lacks is =
    let e = length-remove i c.form (omega (arith, lacks.within)) in
    let outer = and_parts (int_le (pos 1) c.den && is_form (width c.form) c.form) (same_number (gcd c.den (gcd_of c.form)) (pos 1)) is.scoped in
    let some = (and_parts (int_le (pos 1) c.den) (is_form (width c.form) c.form) outer.0).0 in
    let fit = and_parts (fits c.den) (all_fit c.form) is.fits in
    let form = remove i c.form in
    record {
      scoped = and_from (int_le (pos 1) c.den && is_form (width form) form) (same_number (gcd c.den (gcd_of form)) (pos 1))
          (and_from (int_le (pos 1) c.den) (is_form (width form) form) some (is_form_from (width form) form (omega (arith, lacks.within))))
          (rw (gcd_of-remove i c.form lacks.zero) outer.1);
      fits = and_from (fits c.den) (all_fit form) fit.0 (fit_remove i c.form fit.1);
    }
