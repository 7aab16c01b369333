-- The words of other modules that the proofs of this crate cite, passed on from one place. Declares nothing.
pub use Rattle.std.proofs.Common.{◌≡◌, ◌∙◌, refl, ap, sym, subst, ℕ, zero, suc, ◌+◌, ◌^◌, ◌<◌, ◌≤◌, ℤ, pos, negsuc, ◌+ℤ◌, ◌*ℤ◌, ◌≤ℤ◌, unsigned_abs, arith, Bool, true, List, [], ◌∷◌, length, take, All, ◌-ℤ◌, neg_ℤ, nat_lt, ◌*◌, ◌⊎◌, inl, inr, length-set, replicate, rules, get_or, to_z, of_z, false}
pub use Rattle.std.specs.Prelude.{◌&&◌, slice_set}
pub use Rattle.std.specs.List.{list_all}
pub use Rattle.std.proofs.lemmas.Int.{ints, unsigned_abs-mul, to_z-of_z}
pub use Rattle.std.proofs.lemmas.List.{take_all, length-map, get_or_past}
pub use Rattle.pip_model.specs.Numbers.{is_nonneg}
pub use Rattle.pip_model.specs.Forms.{entry, dot, add, combine, negate, scale}
pub use Rattle.lanes.specs.Narrow.{IsSummable, AreAddable, AreCovered, AreLanes, AreNarrowTimes, AreTurnable, IsNarrow, left_of}
pub use Rattle.std.proofs.lemmas.Nat.{mul-le, or_lt}
pub use Rattle.std.specs.Int.{w32}
