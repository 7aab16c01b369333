-- The words of other modules that the proofs of this crate cite, passed on from one place. Declares nothing.
pub use Rattle.std.proofs.Common.{◌≡◌, refl, ap, sym, ◌∙◌, ℕ, ◌+◌, ◌<◌, ◌≤◌, ℤ, ◌+ℤ◌, ◌*ℤ◌, pos, Bool, true, false, ◌&&◌, List, [], ◌∷◌, ◌++◌, length, take, drop, set, get_or, append_assoc, arith, Ok, Err, ap₂, zero, suc, ◌-◌, negsuc, replicate, rules, subst, to_z, of_z}
pub use Rattle.std.specs.Prelude.{IsTrue, IsFalse, nat_lt, unsigned_abs, slice_index_or, Option, Some, None, IfSome, int_le, All, ◌≤ℤ◌}
pub use Rattle.std.proofs.lemmas.List.{drop_more, drop_all, take_more_set, drop-set-lt, length-append, length-map, take_at, length-take, get_or_at, length-replicate, length-drop, map-append, take-append-drop, get_or_append_left, get_or-take, take_more, take_all}
pub use Rattle.std.proofs.lemmas.Int.{ints, to_z-of_z}
pub use Rattle.std.specs.Int.{w128}
pub use Rattle.std.proofs.lemmas.Result.{err_from_is_err_and}
pub use Rattle.std.proofs.lemmas.Grind.{common_steps}
pub use Rattle.pip_model.specs.Numbers.{fits, is_nonneg, divides, floor_div, is_zero, is_negative}
pub use Rattle.pip_model.specs.Forms.{scale, entry, constant, add, widen_to, width, coefficients, floor_divided}
pub use Rattle.pip_model.specs.Listed.{all_fit}
pub use Rattle.pip_model.specs.Reading.{◌>>=◌, ◌>>◌}
pub use Rattle.pip_model.specs.Check.{Spot, CheckFault, Checks, plus_term, plus_term_listed, sum_of, holds, fit, is_divisible, derived, after_step, is_absurd, ends_absurd}
pub use Rattle.pip_model.proofs.Fitting.{fit_behind, fit_never, fit_zeros, fit_drop, fit_join, fit_cons}
pub use Rattle.pip_model.specs.Certificate.{Step}
pub use Rattle.pip_model.proofs.Forms.{length-add, length-widened}
pub use Rattle.affine_forms.specs.Checks.{Fits, is_form_overflow, is_overflow}
pub use Rattle.derivation_steps.specs.Faults.{fault_of, fault_at, spot_of}
pub use Rattle.std.proofs.lemmas.List.Folds.{list_all-append}
pub use Rattle.derivation_steps.specs.Sums.{spread, total, PartSum, IsPartSum, EndsAtItsLast}
pub use Rattle.derivation_steps.specs.Steps.{absurd_after, derived_from, read_over}
pub use Rattle.affine_forms.proofs.Combined.{refused}
pub use Rattle.std.proofs.lemmas.List.Elements.{All-append, All-take, All-drop, All-set}
