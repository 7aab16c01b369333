-- The words of other modules that the proofs of this crate cite, passed on from one place. Declares nothing.
pub use Rattle.std.proofs.Common.{◌≡◌, ◌∙◌, refl, ap, sym, subst, ℕ, zero, suc, ◌+◌, ◌*◌, ◌^◌, ◌<◌, ◌≤◌, ℤ, pos, ◌*ℤ◌, ◌<ℤ◌, unsigned_abs, arith, ◌⊎◌, inl, inr, true, List, [], ◌∷◌, ◌++◌, length, take, drop, append-nil, negsuc, ◌+ℤ◌, ◌-ℤ◌, ◌≤ℤ◌, length-set, Bool, false, ◌&&◌, get_or, replicate, append_assoc, ◌-◌, rules, nat_lt}
pub use Rattle.std.proofs.lemmas.Int.{ints, unsigned_abs-mul}
pub use Rattle.pip_model.specs.Numbers.{floor_div, fits, same_number, is_negative}
pub use Rattle.pip_model.specs.Forms.{entry, dot, combine, scale, width}
pub use Rattle.pip_model.specs.Listed.{all_fit}
pub use Rattle.pip_model.specs.Rows.{Row, pivot_listed, start, unit_row, count_from, divided, substituted, eliminated, row_at, other_rows, eliminated_listed, cross_products, up_to_difference, is_better, best_listed, entering_of_listed, entering_listed, candidates, form_row, pivot}
pub use Rattle.row_laws.specs.Short.{IsShortRow, IsShort}
pub use Rattle.form_laws.specs.ByForm.{coef, place, over, by_form, Form, made, IsWide, AllWide, KeptWide, IsOver, MadeBy, AllForms, combination, Kept, Whole, rows_by, turned, kept_at, vertex}
pub use Rattle.form_laws.specs.Bounds.{norm, AllWithin, IsBounded, AllShort, KeptShort, RowWithin}
pub use Rattle.form_laws.specs.Columns.{part, IsScaled, IsBasis, columns_of, IsSummable}
pub use Rattle.std.proofs.lemmas.List.Elements.{All-take, All-drop, All-more, All-push, All-weaker}
pub use Rattle.std.specs.Prelude.{slice_set, flat_map, if◌then◌else◌, slice_index_or, map, All}
pub use Rattle.pip_model.proofs.Polynomials.{var, num, ◌⊕◌, ◌⊖◌, ◌⊗◌, ring, ring_by, ring_by_2}
pub use Rattle.pip_model.proofs.RingLaws.{*ℤ_assoc}
pub use Rattle.pip_model.proofs.Order.{mul_pp, factor_p}
pub use Rattle.pip_model.proofs.Forms.{entry-combine, length-combine, entry-scale, length-count, entry-zeros, scale_one}
pub use Rattle.run_laws.proofs.Sums.{entry-set_same, entry-set_other, length-scale}
pub use Rattle.run_laws.proofs.Lengths.{length_map, length_floors, length_zeros, length_drop}
pub use Rattle.row_laws.proofs.Unchanged.{scaled, divided-scaled}
pub use Rattle.std.proofs.lemmas.Nat.{mul-le}
pub use Rattle.run_laws.proofs.RowsAt.{divisor, Divisor, divisor_is, scale-floors}
pub use Rattle.row_laws.proofs.ShortRows.{short_eliminated}
pub use Rattle.std.proofs.lemmas.List.{map-append, take_all, map_more, length-take-le, get_or-take, get_or-drop, get_or-append-add, get_or-map, get_or_default, length-map}
pub use Rattle.row_laws.specs.Rows.{content}
pub use Rattle.row_laws.proofs.Contents.{content-one, content-divided}
pub use Rattle.pip_model.proofs.Division.{floor-exact}
