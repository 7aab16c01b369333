-- How the calls of this crate cite the definitions.
use Rattle.std.specs.Prelude.{◌≡◌, Bool, true, false, ℤ, IsTrue, IsFalse, Result, Ok, Err}
use Rattle.pip_model.specs.Numbers.{fits}
use Rattle.affine_forms.specs.declared.numbers.Overflow.{Overflow}
use Rattle.affine_forms.specs.declared.memory.FormRefusal.{FormRefusal}
use Rattle.affine_forms.specs.declared.memory.FormRefusal.TheVariants as refusal

-- z fits
abbrev pub Fits : ℤ → Type 0
Fits z = IsTrue (fits z)

-- z, or the refusal where it does not fit
abbrev pub IsFitted : ℤ → Result ℤ Overflow → Type 0
IsFitted z (Ok y) = (y ≡ z) × Fits z
IsFitted z (Err e) = IsFalse (fits z)

-- each of these refusals says that a listed number does not fit
abbrev pub is_overflow : Overflow → Bool
is_overflow e = true

-- of these refusals Overflow says so
abbrev pub is_form_overflow : FormRefusal → Bool
is_form_overflow refusal.Overflow = true
is_form_overflow refusal.WantOfMemory = false
