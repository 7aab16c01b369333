-- The words of other modules that the proofs of this crate cite, passed on from one place. Declares nothing.
pub use Rattle.std.proofs.Common.{◌≡◌, ap, ap₂, sym, refl, arith, ℕ, zero, suc, Bool, true, false, cond, ◌&&◌, List, [], ◌∷◌, ◌++◌, ℤ, pos, negsuc, ◌≤ℤ◌, ◌<ℤ◌, eqb-true, ◌<◌, ltb-true, length, ◌∙◌, ◌+◌, ◌-◌, ◌≤◌, ◌+ℤ◌, ◌*ℤ◌, append_assoc, length-append, subst, ◌/◌, ◌%◌, ◌^◌, ◌-ℤ◌, unsigned_abs, neg_ℤ, append-nil, ltb-false, ◌*◌, nat_abs, eqb, ltb, leb, ◌⊎◌, inl, inr}
pub use Rattle.std.specs.Prelude.{not, int_le, int_lt, nat_lt, map, take, slice_set, slice_index_or, if◌then◌else◌, drop, replicate, Option, Some, None, ⊤, Ok, Err, get_or, nat_le, max}
pub use Rattle.std.proofs.lemmas.Int.{ints, unsigned_abs-mul}
pub use Rattle.std.specs.List.{list_all, AllByRecursion, All}
pub use Rattle.std.proofs.Math.IntN.{+ℤ_assoc, +ℤ_idl, +ℤ_idr, *ℤ_comm, +ℤ_invr, zero-*ℤ, *ℤ-zero, -ℤ-+ℤ_cancel, +ℤ_comm}
pub use Rattle.std.proofs.lemmas.List.{length-replicate, length-map, length-take, get_or-take, map-append}
pub use Rattle.std.proofs.Math.Nat.{div-le_self, mod-le, div-add-mod, mod-lt, mul-add-mod_self_left, mod-eq_of_lt, mul-lt-mul_of_pos_left, one-dvd, pos_of_dvd_of_pos, dvd-mul_right}
pub use Rattle.std.proofs.lemmas.Nat.Gcd.{IsGcd-swap, IsGcd-from_zero, IsGcd-from_mod, same_from_IsGcd, mod-eq-zero_of_dvd, le_of_dvd, dvd_refl, dvd_trans, dvd_antisymm}
pub use Rattle.std.specs.Int.{IsGcd, ◌∣◌}
pub use borrow.Author.Differences.{product_is, up, down, same_in, sum_is_lem, neg_is}
pub use Rattle.pip_model.specs.Numbers.{is_nonneg, is_zero, same_number, fits, gcd_of, floor_div, floor_mod, is_positive, is_negative, euclid, gcd, divides}
pub use Rattle.pip_model.specs.Forms.{same_form, dot, value, width, entry, coefficients, constant, widen_to, unit_form, remove, negate, combine, floor_divided, tighten, residue, widen, opposite, add, plus, scale, constant_form}
pub use Rattle.pip_model.specs.Limits.{most_params, most_nesting, most_components}
pub use Rattle.pip_model.specs.Listed.{all_fit, combine_listed, opposite_listed}
pub use Rattle.pip_model.specs.Tree.{Tree, NewParm, If, is_form, IsWellFormed, Bottom, Leaf, Component, is_scoped, is_component, Ratio, component_value, tree_value, size, nesting, leaf_of, leaf_point}
pub use Rattle.pip_model.specs.Rows.{row_at, is_whole, count_from}
pub use Rattle.pip_model.specs.Simplified.{simplified, same_components, same_tree, is_unused, component_without, without, simple_if, simple_new}
