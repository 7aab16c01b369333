-- The words of other modules that the proofs of this crate cite, passed on from one place. Declares nothing.
pub use Rattle.std.proofs.Common.{◌≡◌, refl, ap, ◌∙◌, ℤ, pos, negsuc, true, arith, List, [], ◌∷◌, sym, ℕ, ◌+◌, ◌<◌, ◌+ℤ◌, neg_ℤ, length, map, zero, suc, ◌-◌, ◌%◌, ◌≤ℤ◌, ◌++◌, take, append_assoc, length-append, rules, drop}
pub use Rattle.std.proofs.lemmas.Int.{ints}
pub use Rattle.std.specs.Prelude.{slice_set, All}
pub use Rattle.std.proofs.lemmas.List.{take_at, length-set, length-map, get_or-map, length-take, map-append, take-map}
pub use Rattle.pip_model.specs.Numbers.{floor_mod}
pub use Rattle.pip_model.specs.Rows.{is_whole, Row, divided, widened, row_at, fraction_from, first_fraction}
pub use Rattle.pip_model.specs.Forms.{entry, negate, residue, width, coefficients, constant, widen}
pub use Rattle.pip_model.specs.Cuts.{residue_of, rounding, parametric_cut, constant_cut}
