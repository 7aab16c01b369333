-- The words of other modules that the proofs of this crate cite, passed on from one place. Declares nothing.
pub use Rattle.std.proofs.Common.{◌≡◌, refl, ℕ, zero, suc, ◌+◌, ◌-◌, ◌≤◌, ℤ, pos, arith, List, length, length-drop, Bool, true, false, drop, ◌≢◌, ◌∙◌, sym, ap, ◌<◌, ◌⊎◌, inl, inr, [], ◌∷◌, ◌++◌, append_assoc, add-one, zero-add, drop-cons, take, sub-one, get_or, length-append, length-take, subst, rules}
pub use Rattle.std.specs.Prelude.{◌&&◌, ◌==◌, Result, Ok, Err, Option, Some, None, IfOk, IfErr, IfSome, if◌then◌else◌, int_le, unsigned_abs, IfNone, fold, slice_index, All, map, IsTrue, ◌↔◌}
pub use Rattle.std.proofs.lemmas.List.{length_push, take_more, length-take-le, drop-drop, take-append-drop}
pub use Rattle.std.proofs.lemmas.Result.{err_from_is_err_and}
pub use Rattle.std.specs.List.{list_all}
pub use Rattle.pip_model.specs.declared.Kind.TheVariants.{LeftParen, RightParen, LeftRow, RightRow, Number, WideNumber}
pub use Rattle.pip_model.specs.declared.LimitKind.TheVariants.{Unknowns, Parameters, Rows, ContextRows}
pub use Rattle.pip_model.specs.Limits.{most_unknowns, most_params, most_rows, most_context_rows}
pub use Rattle.pip_model.specs.Tokens.{token}
pub use Rattle.pip_model.specs.Printed.{IsGroup}
pub use Rattle.pip_model.specs.Reading.{Fault, Syntax, Wide, Limit, BigParameter, OptionWord, ◌>>=◌, same_bracket, expect, number, number_of, numbers, row, rows, block, closing, group, group_to, within, no_big_parameter, next_open, item_at, open_after, Reads, item}
pub use Rattle.pip_model.specs.NativeText.{problem_at, read_native, form_of_row}
pub use Rattle.text_laws.proofs.Items.{next_open-first, next_open-none, next_open-closed}
pub use Rattle.text_laws.proofs.ReadProblems.{row-reads, AreRows, rows-reads, block-reads, InRange, within-reads, big-reads, group-reads, problem_at-reads}
pub use Rattle.pip_model.specs.ContextText.{context_rows, context_at}
pub use Rattle.text_reading.proofs.Ends.{behind, list_by, full_by, list_end, list_more, list_refused}
pub use Rattle.text_reading.proofs.Fronts.{one_more, read_as, step_more, refused_more}
pub use Rattle.pip_problem.specs.declared.refusal.ReadRefusal.{ReadRefusal}
pub use Rattle.pip_problem.specs.Faults.{read_fault}
pub use Rattle.affine_forms.specs.Forms.{FormsOfWidth}
pub use Rattle.text_reading.specs.Fronts.{with_front}
pub use Rattle.pip_model.specs.Moved.{is_closed}
pub use Rattle.pip_reader.specs.Groups.{NoBracket, group_behind, first_group_end, group_end_from, IsScanned, place_behind}
pub use Rattle.pip_reader.specs.Contexts.{next_row}
pub use Rattle.pip_reader.specs.Rows.{form_row, form_rows}
pub use Rattle.pip_reader.specs.Problems.{problem_by_steps, problem_of}
pub use Rattle.text_reading.proofs.Binds.{refused_by, bind_assoc}
pub use Rattle.std.proofs.lemmas.Bool.{ne_eqb, cases_Bool, cases_eq}
pub use Rattle.text_tokens.proofs.Closing.{other_byte}
