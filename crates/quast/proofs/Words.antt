-- The words of other modules that the proofs of this crate cite, passed on from one place. Declares nothing.
pub use Rattle.std.proofs.Common.{◌≡◌, ap₂, ◌<◌, ◌+◌, ℕ, arith, List, [], ◌∷◌, length, get_or, ap, subst, sym, ◌&&◌, pos, ◌≤◌, ℤ, ◌≤ℤ◌, refl, Bool, true, IsTrue, eqb-true, ◌∙◌, false, take, flat_map, ◌++◌, if◌then◌else◌, ◌-◌, map, vec_len, vec_capacity, rules, Some, None, to_z, of_z, drop}
pub use Rattle.std.proofs.lemmas.Bool.{and_parts, and_from}
pub use Rattle.std.proofs.lemmas.List.Elements.{All-head, All-tail, All-push}
pub use Rattle.std.specs.Prelude.{All, int_le, nat_le}
pub use Rattle.std.proofs.lemmas.Int.{ints}
pub use Rattle.std.specs.List.{list_all}
pub use Rattle.std.proofs.lemmas.List.{length-map, take_all}
pub use Rattle.std.proofs.lemmas.List.Folds.{list_all-append, list_all_more, list_all_at}
pub use Rattle.std.proofs.lemmas.Result.{err_from_is_err_and}
pub use Rattle.pip_model.specs.Numbers.{gcd, gcd_of, same_number, fits, floor_div, is_nonneg}
pub use Rattle.pip_model.specs.Forms.{width, remove, floor_divided, value}
pub use Rattle.pip_model.specs.Tree.{Component, is_form, reduced, Tree, Leaf, If, NewParm, is_component, is_scoped, nesting, Bottom, leaf_of}
pub use Rattle.pip_model.specs.Listed.{all_fit, value_listed}
pub use Rattle.affine_forms.specs.Checks.{Fits}
pub use Rattle.pip_model.specs.Simplified.{component_without}
pub use Rattle.quast.specs.Components.{IsComponent, width_of, LacksPlace}
pub use Rattle.quast.specs.Trees.{ScopedTree, IsQuast}
pub use Rattle.quast.specs.Places.{value_fits, path_listed, list_listed}
