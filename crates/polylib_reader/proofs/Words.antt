-- The words of other modules that the proofs of this crate cite, passed on from one place. Declares nothing.
pub use Rattle.std.proofs.Common.{◌≡◌, ◌∙◌, ℕ, suc, ◌+◌, ◌-◌, ◌<◌, List, length, Bool, false, Ok, Err, Result, sym, ap, arith, refl, ◌++◌, ℤ, true, drop, ◌≤◌, rules}
pub use Rattle.std.specs.Prelude.{◌==◌, All, codes}
pub use Rattle.std.proofs.lemmas.Result.{err_from_is_err_and}
pub use Rattle.pip_model.specs.Reading.{Fault, ◌>>=◌, Reads, no_big_parameter}
pub use Rattle.pip_model.specs.MatrixText.{Word, word, accepted_option, options, matrix_numbers, inequalities, matrix_rows, read_matrices, matrix_number, skipped}
pub use Rattle.pip_model.specs.declared.LimitKind.{LimitKind}
pub use Rattle.text_reading.proofs.Binds.{bind_assoc, refused_by}
pub use Rattle.text_reading.specs.Fronts.{with_front}
pub use Rattle.text_reading.proofs.Fronts.{one_more, front_front, step_more, refused_more}
pub use Rattle.affine_forms.specs.Checks.{Fits}
pub use Rattle.pip_problem.specs.Faults.{read_fault}
pub use Rattle.polylib_reader.specs.Matrices.{row_head, context_matrix, constraint_matrix}
