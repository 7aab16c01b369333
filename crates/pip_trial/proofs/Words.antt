-- The words of other modules that the proofs of this crate cite, passed on from one place. Declares nothing.
pub use Rattle.std.proofs.Common.{◌≡◌, ℕ, ◌+◌, ◌<◌, ◌≤◌, ◌^◌, max, suc, arith, lit<, ◌∙◌, refl, sym, ap, zero, ◌*◌, ◌/◌, ℤ, pos, ◌-ℤ◌, true, List, [], ◌∷◌, ◌++◌, length, drop, unsigned_abs, ◌-◌, rules}
pub use Rattle.std.proofs.Math.Nat.{pow-suc, pow-le-pow_right}
pub use Rattle.std.proofs.lemmas.List.{length-append, take_at, drop_at, drop-drop, get_or_at, append_assoc, append-nil}
pub use Rattle.std.specs.Prelude.{Ok, All}
pub use Rattle.std.proofs.lemmas.List.Elements.{All-push}
pub use Rattle.pip_model.specs.Tree.{Tree, Bottom, Leaf, If, NewParm, size, nesting, Answer, Void, Solved}
pub use Rattle.program_model.specs.Trial.{Tally, tally_tree, after_draw, after_draws, drawn, numbers_drawn, ranges, row_ranges, rows_drawn, problem_drawn, draws_of, tally_outcome, tally, trial_budget}
pub use Rattle.pip_model.specs.NativeText.{form_of_row}
pub use Rattle.pip_model.specs.Problem.{Problem}
pub use Rattle.affine_forms.specs.Checks.{Fits}
pub use Rattle.quast.specs.Trees.{tree_of}
pub use Rattle.pip_trial.specs.Tallies.{HasRoom, answer_size, none_counted}
