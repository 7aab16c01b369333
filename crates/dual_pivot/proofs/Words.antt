-- The words of other modules that the proofs of this crate cite, passed on from one place. Declares nothing.
pub use Rattle.std.proofs.Common.{◌≡◌, refl, ap, ◌∙◌, ℕ, ◌+◌, ◌<◌, ◌≤◌, ℤ, pos, negsuc, Bool, true, false, ◌&&◌, List, [], ◌∷◌, length, take, drop, arith, eqb, suc, ◌-◌, Option, Some, None, rules, sym, to_z, of_z}
pub use Rattle.std.specs.Prelude.{IsTrue, IsFalse, int_lt, if◌then◌else◌, IfSome}
pub use Rattle.std.proofs.lemmas.Grind.{common_steps}
pub use Rattle.pip_model.specs.Numbers.{fits, same_number, is_positive}
pub use Rattle.pip_model.specs.Listed.{all_fit}
pub use Rattle.pip_model.specs.Rows.{Row, row_at, form_row, cross_products, up_to_difference, is_better, count_from, entering, entering_listed}
pub use Rattle.tableau.specs.Views.{row_of}
pub use Rattle.row_laws.specs.Choices.{product_at, compared, better, better_listed, choice, choice_listed, candidates_from, IsCandidate}
