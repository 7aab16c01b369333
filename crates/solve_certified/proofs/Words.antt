-- The words of other modules that the proofs of this crate cite, passed on from one place. Declares nothing.
pub use Rattle.std.proofs.Common.{◌≡◌, ◌∙◌, ap, sym, ℕ, zero, suc, ◌+◌, ◌-◌, ◌≤◌, ℤ, List, ◌++◌, length, map, take, Result, Ok, Err, arith, refl, subst, pos, true, ◌&&◌, [], ◌∷◌, length-append, append-nil, eqb-true, ap₂, ◌<◌, get_or, append_assoc, Bool, false, drop, All, rules, to_z, of_z, add-one}
pub use Rattle.std.specs.Prelude.{OnOk, Option, Some, None, IfSome, IsTrue, IsFalse, int_le, IfOk, ◌==◌, option_copied, slice_index_or}
pub use Rattle.std.proofs.lemmas.List.{take-append-le, take-take, take_at, length-map, map-append, drop_more, drop_all, get_or-map, length-take-le, take-append-drop}
pub use Rattle.std.proofs.lemmas.List.Elements.{All-weaker, All-push}
pub use Rattle.std.proofs.lemmas.Result.{err_from_is_err_and}
pub use Rattle.pip_model.specs.Made.{narrow_to, PathQuotient, solve_with_certificate, made_leaf, unshared, quotient_step, quotient_steps, path_quotients, made_refutation, made_refutations, made_leaves, steps_or_none}
pub use Rattle.certificate_check.specs.Goals.{without_last}
pub use Rattle.certificate_check.specs.Known.{KnownForms}
pub use Rattle.refuter.specs.Kept.{AreFirst}
pub use Rattle.certificate_check.specs.Leaves.{nothing, case_of, own_premises}
pub use Rattle.pip_model.specs.Forms.{opposite, constant}
pub use Rattle.pip_model.specs.Listed.{all_fit, opposite_listed}
pub use Rattle.pip_model.specs.Cuts.{upper_bound, Quotient, lower_bound}
pub use Rattle.pip_model.specs.Problem.{Problem}
pub use Rattle.pip_model.specs.Tree.{Tree, If, NewParm, is_form, is_scoped, nesting, Bottom, Leaf, Answer, Solved, Component, leaves, size}
pub use Rattle.pip_model.specs.Printed.{tree_fits, vector_fits}
pub use Rattle.pip_model.specs.Numbers.{fits, same_number}
pub use Rattle.pip_model.specs.Certificate.{Certificate, Refutation, LeafProofs, Step}
pub use Rattle.pip_model.specs.Run.{Work, Outcome, Done, Refused, Refusal, Overflow, Budget, IsBudget, answered, solve, give, first_node, setting, run_from, point, answer_from, Counted, go_on, ◌>>=◌, ◌>>◌, unless, listed}
pub use Rattle.pip_model.proofs.Tests.{both, both_true}
pub use Rattle.affine_forms.specs.Checks.{is_form_overflow, Fits}
pub use Rattle.pip_problem.specs.Faults.{run_fault, of_form}
pub use Rattle.pip_model.specs.WellFormed.{IsProblem, IsWellFormedAnswer}
pub use Rattle.run_laws.proofs.SolveRight.{solve-right, leaves-reached, narrow_rows}
pub use Rattle.certificate_laws.proofs.Accepted.{certificate-not_rejected, certified-answer, done_by, tree_shaped}
pub use Rattle.certificate_laws.proofs.FitCertificate.{certificate-fits, point_fits}
pub use Rattle.quast.specs.Answers.{answer_of}
pub use Rattle.pip_model.specs.Check.{LeafCase, Premises, leaf_cases, leaf_forms, leaf_premises, row_premises, sign_premises, least_premises, fronts_from, joined, is_whole_list, scope_forms}
pub use Rattle.pip_model.specs.Refuting.{indices, refute}
pub use Rattle.pip_solve.proofs.Running.{grouped, same_after}
pub use Rattle.quast.specs.Trees.{tree_of}
pub use Rattle.solve_certified.specs.Leaves.{made_proofs, made_at, IsScopeOf, IsBefore}
pub use Rattle.solve_certified.specs.Trails.{TrailForms, below_quotient}
pub use Rattle.solve_certified.specs.Walks.{made_below, are_whole, IsAt, is_whole_answer}
pub use Rattle.solve_certified.specs.Quotients.{steps_from, ReadsPlaces}
pub use Rattle.solve_certified.specs.Goals.{unknowns_at}
pub use Rattle.solve_certified.specs.Refutations.{places_of, refuted_by}
pub use Rattle.certificate_check.specs.Turned.{own_before, own_forms, staying, AreMore}
pub use Rattle.pip_model.proofs.Forms.{length-count}
