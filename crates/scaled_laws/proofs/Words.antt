-- The words of other modules that the proofs of this crate cite, passed on from one place. Declares nothing.
pub use Rattle.std.proofs.Common.{◌≡◌, refl, ◌∙◌, ap, sym, subst, ℕ, zero, suc, ◌+◌, ◌*◌, ◌^◌, ◌<◌, ℤ, pos, ◌<ℤ◌, arith, true, List, [], ◌∷◌, ◌++◌, length, map, take, drop, append-nil, All, ◌-◌, ◌≤◌, negsuc, ◌*ℤ◌, ◌≤ℤ◌, neg_ℤ, unsigned_abs, rules, nat_lt, Bool, false, length-drop, ◌+ℤ◌, ◌-ℤ◌, replicate}
pub use Rattle.std.proofs.lemmas.Int.{ints}
pub use Rattle.std.proofs.lemmas.List.Elements.{All-take, All-drop, All-nil, All-cons}
pub use Rattle.pip_model.specs.Rows.{Row, pivot_listed, entering_listed, start, unit_row, count_from, divided, substituted, eliminated, cross_products, is_better, best, entering_of, candidates, row_at}
pub use Rattle.form_laws.specs.ByForm.{by_form, Form, made, AllWide, KeptWide, IsOver, MadeBy, AllForms, coef, place}
pub use Rattle.form_laws.specs.Columns.{IsScaled}
pub use Rattle.scaled_laws.specs.Scaled.{AreScaled, row_over}
pub use Rattle.std.proofs.lemmas.List.{get_or-take, get_or-drop, get_or_default, length-take-le, take-map, drop-map, drop-set-lt, drop-replicate, take-replicate, get_or-map}
pub use Rattle.pip_model.specs.Numbers.{floor_mod, floor_div, divides, is_nonneg, is_zero, is_positive}
pub use Rattle.pip_model.specs.Forms.{entry, scale, negate, residue, combine}
pub use Rattle.pip_model.proofs.Division.{floor-unique}
pub use Rattle.pip_model.proofs.Laws.{floor_mod-law, floor_div-law}
pub use Rattle.pip_model.proofs.Polynomials.{var, num, ◌⊗◌, ring, ◌⊕◌, ◌⊖◌, ring_by}
pub use Rattle.run_laws.proofs.Lengths.{length_map, length_floors}
pub use Rattle.form_laws.proofs.Divided.{row_by, same_row, same_entries, Undivided, undivided, divided-multiple}
pub use Rattle.form_laws.proofs.Turning.{entry_first, length_counted, eliminated_divided, set_scaled}
pub use Rattle.scaled_laws.specs.Units.{row_size, unit_numbers}
pub use Rattle.std.proofs.Math.Seq.{take-set-lt}
pub use Rattle.std.specs.Prelude.{slice_set, filter, int_lt, Option, Some, None, IfSome, if◌then◌else◌}
pub use Rattle.pip_model.proofs.Order.{mul_nn, mul_pp, factor_p}
pub use Rattle.pip_model.proofs.Forms.{entry-scale, scale_one}
pub use Rattle.run_laws.proofs.RowsAt.{divisor}
pub use Rattle.pip_model.proofs.Tests.{above}
pub use Rattle.pip_model.proofs.RingLaws.{minus_one}
pub use Rattle.form_laws.proofs.Places.{take_combine, drop_combine}
pub use Rattle.std.proofs.Math.IntN.{*ℤ_comm}
pub use Rattle.run_laws.proofs.Gomory.{floor_mod_is}
