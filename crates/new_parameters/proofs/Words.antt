-- The words of other modules that the proofs of this crate cite, passed on from one place. Declares nothing.
pub use Rattle.std.proofs.Common.{◌≡◌, ℕ, ◌+◌, ◌-◌, ◌<◌, ◌≤◌, ℤ, pos, ◌+ℤ◌, ◌-ℤ◌, ◌≤ℤ◌, neg_ℤ, refl, Bool, true, false, List, [], ◌∷◌, length, ap, sym, ◌∙◌, arith, length-append, length-set, negsuc, ◌&&◌, ◌++◌, get_or, replicate, append_assoc, eqb, max, zero, suc, Option, Some, None, take, cond, subst, rules}
pub use Rattle.std.specs.Prelude.{slice_set, IsTrue, IsFalse, unsigned_abs, position, slice_get, unwrap_or}
pub use Rattle.std.proofs.lemmas.List.{length-map, length-replicate, get_or-map, get_or-set_other, replicate-append-replicate, same_from_push, get_or-take, take_more, length-take}
pub use Rattle.std.specs.Ordering.{int_eq}
pub use Rattle.std.proofs.lemmas.Bool.Decides.{Decides-int_eq, Decides-eqb, Decides-and}
pub use Rattle.pip_model.specs.Forms.{width, coefficients, constant, entry, negate, widen_to, same_form}
pub use Rattle.pip_model.specs.Cuts.{Quotient, rounding, upper_bound, same_quotient, find_from}
pub use Rattle.pip_model.proofs.Forms.{length-coefficients, length-widened, constant-plus, entry-padded}
pub use Rattle.new_parameters.specs.Scopes.{IsQuotient, AreQuotients, Scope}
pub use Rattle.new_parameters.specs.Keys.{trimmed, is_same_key, trimmed_with}
