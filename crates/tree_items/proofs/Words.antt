-- The words of other modules that the proofs of this crate cite, passed on from one place. Declares nothing.
pub use Rattle.std.proofs.Common.{◌≡◌, refl, false, IsTrue, sym, ◌∙◌, ap, ℕ, List, [], ◌∷◌, ◌++◌, Option, Some, None, ◌+◌, ◌<◌, arith, true, length, drop, option_map, ℤ, suc, pos, get_or, map, add-one, drop-cons, append_assoc, rules}
pub use Rattle.std.specs.Prelude.{Err, IfSome, IsFalse, Ok, Result, All}
pub use Rattle.pip_model.specs.Listed.{all_fit}
pub use Rattle.program_model.specs.ItemTexts.{pieces_text, made_text, made_line, sameness_text}
pub use Rattle.pip_model.specs.TreeText.{Commented, spell}
pub use Rattle.item_writing.specs.Endings.{told, pieces_ending}
pub use Rattle.program_model.specs.Endings.{Ending}
pub use Rattle.pip_model.specs.Reading.{◌>>=◌}
pub use Rattle.pip_model.specs.Tree.{Answer, Tree, Bottom, Leaf, Component, reduced, Ratio, component_value, leaf_of, leaf_point, tree_value}
pub use Rattle.program_model.specs.ItemKinds.{needed_answer, trio_by}
pub use Rattle.quast.specs.Components.{IsComponent}
pub use Rattle.tree_items.specs.Values.{ratios_of, tree_valued}
