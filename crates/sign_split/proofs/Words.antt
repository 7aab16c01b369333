-- The words of other modules that the proofs of this crate cite, passed on from one place. Declares nothing.
pub use Rattle.std.proofs.Common.{rules, ◌≡◌, refl, ap, ap₂, sym, subst, ◌∙◌, ◌+◌, ◌≤◌, ℤ, pos, ◌-ℤ◌, neg_ℤ, arith, List, [], ◌∷◌, ◌++◌, length, length-append, ℕ, zero, suc, ◌<◌, negsuc, ◌+ℤ◌, ◌*ℤ◌, Bool, true, false, ◌&&◌, not, Option, Some, None, ◌-◌, map, replicate, is_some}
pub use Rattle.std.specs.Prelude.{slice_set, IsTrue, if◌then◌else◌, Result, Ok, Err, IfOk, IfErr, IfSome}
pub use Rattle.std.proofs.lemmas.Int.{ints}
pub use Rattle.std.proofs.lemmas.List.{map-append, get_or-map, length-map}
pub use Rattle.std.specs.List.{AllByRecursion, list_all}
pub use Rattle.pip_model.specs.Forms.{coefficients, constant, width, negate, opposite, floor_divided, tighten, widen_to}
pub use Rattle.pip_model.specs.Listed.{all_fit, opposite_listed}
pub use Rattle.pip_model.proofs.Division.{form-parts, Multiple, floor-exact, rest_of, gcd_of-natural, gcd_of-divides}
pub use Rattle.run_laws.proofs.Lengths.{length_map, length_tighten}
pub use Rattle.run_laws.proofs.Scopes.{length-opposite, entry_end, constant-end, length-widen_to, coefficients-end}
pub use Rattle.pip_model.specs.Numbers.{is_nonneg, is_negative, is_positive, is_zero, floor_div, gcd_of}
pub use Rattle.pip_model.specs.Run.{Work, Done, Plus, Minus, class, class_by_points, Outcome, Refused, go_on, give, Refusal, Class, Counted, ◌>>=◌, listed, root, run_from, point_setting, numbers_of, point, class_above, class_below}
pub use Rattle.pip_problem.specs.Faults.{run_fault}
pub use Rattle.context_points.specs.Points.{has_point}
pub use Rattle.pip_problem.proofs.Counting.{counted_none, counted_on}
pub use Rattle.sign_split.specs.Classes.{class_of, widened_class, class_if_below}
pub use Rattle.pip_model.specs.Contexts.{IsNarrow, IsContext, ClassTells, IsPointRefusal}
pub use Rattle.pip_problem.specs.Counts.{IsCountedRun}
pub use Rattle.context_points.specs.InLanes.{lanes_of, form_in}
pub use Rattle.std.proofs.Math.Bool.{and_assoc}
pub use Rattle.std.proofs.lemmas.List.Folds.{list_all-append}
pub use Rattle.pip_model.proofs.Forms.{length-widened}
