-- Lowest terms: their divisor, and components that are in them.
use Rattle.quast_text.proofs.Words.{◌≡◌, ◌∙◌, refl, ap, sym, length, ℕ, zero, suc, ◌≤◌, ℤ, pos, negsuc, ◌≤ℤ◌, ◌*ℤ◌, unsigned_abs, arith, List, ints, le_of_dvd, floor_div, gcd, gcd_of, lcm, same_number, int_le, Component, reduced, is_form, component, Read, ok_value, common-IsGcd, quotient_positive, floor_divided_one, div_one, three, same_number_is}
use Rattle.pip_model.proofs.Order.{mul_pp}
use Rattle.quast_text.proofs.Spellings.{gcd_positive}
use Rattle.std.specs.Prelude.{Ok}
use Rattle.text_laws.proofs.ReadComponents.{IsRead, component-reads}

pub gcd_below : (c d : ℤ) → pos 1 ≤ℤ d → gcd c d ≤ℤ d
gcd_below c (negsuc n) h = absurd (omega (arith, ints))
gcd_below c (pos n) h =
    let p = le_of_dvd (omega (arith, ints)) (common-IsGcd (unsigned_abs c) n).1 in
    omega (arith, ints)

pub from_one : (x : ℤ) → pos 0 ≤ℤ x → ¬ (x ≡ pos 0) → pos 1 ≤ℤ x
from_one (pos zero) h k = absurd (k refl)
from_one (pos (suc n)) h k = omega (arith, ints)
from_one (negsuc n) h k = absurd (omega (arith, ints))

product_positive : (x y : ℤ) → pos 1 ≤ℤ x → pos 1 ≤ℤ y → pos 1 ≤ℤ (x *ℤ y)
product_positive x y h k = let p = mul_pp x y (omega (arith, ints)) (omega (arith, ints)) in omega (arith, ints)

-- the same of a number that is the divisor, or the multiple
pub divisor_positive : (x c d : ℤ) → x ≡ gcd c d → pos 1 ≤ℤ d → pos 1 ≤ℤ x
divisor_positive x c d is h = rw is (gcd_positive c d h)

pub multiple_positive : (x a b : ℤ) → x ≡ lcm a b → pos 1 ≤ℤ a → pos 1 ≤ℤ b → pos 1 ≤ℤ x
multiple_positive x a b is h k = rw is (product_positive a (floor_div b (gcd a b)) h (quotient_positive b (gcd a b) (gcd_positive a b k) (gcd_below a b k)))

pub lowest_positive : (x n d : ℤ) → x ≡ floor_div d (gcd n d) → pos 1 ≤ℤ d → pos 1 ≤ℤ x
lowest_positive x n d is h = rw is (quotient_positive d (gcd n d) (gcd_positive n d h) (gcd_below n d h))

-- ---- a component that is read is in lowest terms already

same_reduced : (c : Component) (g : ℤ) → gcd c.den (gcd_of c.form) ≡ g → g ≡ pos 1 → reduced c.den c.form ≡ c
same_reduced c g is one = rw ((is ∙ one), div_one c.den, floor_divided_one c.form) refl

pub read_reduced : (bytes : List ℕ) (w place : ℕ) (c : Component) (after : ℕ) → place ≤ length bytes → component bytes w place ≡ Ok (c, after) → component bytes w place ≡ Ok (reduced c.den c.form, after)
read_reduced bytes w place c after h e =
    let is = (ok_value (component bytes w place) (Read bytes place (IsRead w)) (c, after) e (component-reads bytes w place h)).value in
    let parts = three (int_le (pos 1) c.den) (is_form w c.form) (same_number (gcd c.den (gcd_of c.form)) (pos 1)) is.0 in
    e ∙ ap (λ (d : Component). Ok (d, after)) (sym (same_reduced c _ refl (same_number_is (gcd c.den (gcd_of c.form)) (pos 1) parts.2)))
