-- The words of other modules that the proofs of this crate cite, passed on from one place. Declares nothing.
pub use Rattle.std.proofs.Common.{◌≡◌, refl, sym, ◌^◌, ◌-◌, ◌<◌, ℤ, ◌*ℤ◌, ◌-ℤ◌, unsigned_abs, arith, [], ◌∷◌, ℕ, ◌+◌, pos, negsuc, ◌+ℤ◌, neg_ℤ, List, length, ap, ◌∙◌, zero, suc, ◌≤◌, ◌++◌, replicate, ◌≤ℤ◌, to_z, of_z, true, drop, get_or, Bool, ◌&&◌, map, take, subst, ◌<ℤ◌, set, append_assoc, append-nil, length-append, rules}
pub use Rattle.std.specs.Prelude.{FitsSigned, IsTrue, slice_set, All, IsFalse, if◌then◌else◌, swap, Result, IsErr, ⊤, false}
pub use Rattle.std.proofs.lemmas.Int.{unsigned_abs-mul, ints, to_z-of_z, fits_signed_from_abs}
pub use Rattle.std.proofs.lemmas.Bool.{lt-ltb, ltb-true, false≢true}
pub use Rattle.std.proofs.lemmas.List.{take_at, length-map, get_or-map, drop_more, take_more, take_all, set_at, get_or_at, length-take, length-replicate, map_more, drop_all, take-append-le}
pub use Rattle.std.specs.Int.{w64, w128, IsGcd}
pub use Rattle.std.proofs.lemmas.List.Elements.{All-from_recursion, recursion_from_All, All-push, All-append, All-take, All-replicate, All-nil, All-cons, All-set}
pub use Rattle.std.proofs.lemmas.Grind.{common_steps}
pub use Rattle.std.proofs.lemmas.Nat.Gcd.{IsGcd-from_zero, IsGcd-from_mod}
pub use Rattle.pip_model.specs.Listed.{all_fit, dot_listed, combine_listed, value_listed}
pub use Rattle.pip_model.specs.Forms.{entry, negate, opposite, width, add, constant_form, unit_form, floor_divided, scale, constant, plus, widen_to, coefficients, tighten, widen, remove, dot, combine, value}
pub use Rattle.pip_model.specs.Numbers.{floor_div, floor_mod, gcd, gcd_of, divides, is_zero, fits, is_nonneg}
pub use Rattle.pip_model.proofs.Fitting.{fits-floor, fits-neg, fit_behind, fit_never, fits-below}
pub use Rattle.pip_model.proofs.Division.{Multiple, gcd-divides, gcd_of-divides, all_through, floor-exact, form-parts, tighten-sign}
pub use Rattle.pip_model.proofs.Gcd.{floor_divided_one, gcd_between, euclid_only, euclid_below, quotient_positive}
pub use Rattle.affine_forms.specs.Checks.{Fits, is_overflow}
pub use Rattle.affine_forms.specs.Forms.{raised, IsForm}
pub use Rattle.pip_model.specs.Agreement.{IsChecked}
pub use Rattle.affine_forms.specs.declared.numbers.Overflow.{Overflow}
