-- The words of other modules that the proofs of this crate cite, passed on from one place. Declares nothing.
pub use Rattle.std.proofs.Common.{◌≡◌, refl, ℕ, zero, suc, ◌<◌, ◌≤◌, arith, Bool, true, false, Option, Some, None, List, length, ℤ, ap, sym, subst, ◌∙◌, ◌+◌, ◌-◌, length-append, [], ◌∷◌, ◌++◌, append_assoc, drop, pos, ◌*ℤ◌, ◌<ℤ◌, ◌+ℤ◌, inl, inr, append-nil}
pub use Rattle.std.specs.Prelude.{Result, Ok, Err, IfOk, IfSome, IsTrue, if◌then◌else◌, codes, int_le, nat_le, map, flat_map, ⊤, ◌↔◌}
pub use Rattle.std.specs.List.{AllByRecursion, list_all}
pub use Rattle.pip_model.specs.Problem.{Problem}
pub use Rattle.pip_model.specs.Tree.{Answer, Void, Solved, Tree, Bottom, Leaf, If, NewParm, Component, reduced, component_value, Ratio, tree_value, is_scoped, is_component, is_form}
pub use Rattle.pip_model.specs.WellFormed.{IsProblem, IsWellFormedAnswer, AreContextRows, IsRow}
pub use Rattle.pip_model.specs.Reading.{Fault, ◌>>◌, same_bracket}
pub use Rattle.pip_model.specs.NativeText.{read_native}
pub use Rattle.pip_model.specs.MatrixText.{read_matrices}
pub use Rattle.pip_model.specs.TreeText.{read_answer, newline, spell_answer, spell, Commented}
pub use Rattle.pip_model.specs.ContextText.{read_context, context_rows, context_at}
pub use Rattle.pip_model.specs.Certificate.{Certificate, read_certificate, spell_certificate}
pub use Rattle.pip_model.specs.Printed.{IsCommented, IsCommentedAnswer, certificate_fits, few_steps, IsPrintableAnswer, component_fits, tree_fits, IsGroup}
pub use Rattle.program_model.specs.Endings.{Ending, rational_certificate, refusal_ending, tool_ending, finished}
pub use Rattle.program_model.specs.Items.{or_ending, needed, one_item, ItemAt, Gives, FirstItems, Ends, Items, IsItself, NoEnd, text_with, text_of_item, FirstItemsTo}
pub use Rattle.program_model.specs.ItemKinds.{problem_item, matrix_item, answer_item, needed_answer, Triple, is_certifiable, rest_of_triple, triple_by, triple, Pair, pair_by, pair, Trio, trio_by, trio}
pub use Rattle.text_laws.proofs.ReadPlaces.{Read, Between, through, Opens, expect-opens, expect-reads, Numbers, weaker, ok_value}
pub use Rattle.text_laws.proofs.ReadProblems.{Whole, read_native-reads, row-reads}
pub use Rattle.text_laws.proofs.ReadMatrices.{read_matrices-reads}
pub use Rattle.text_laws.proofs.ReadTrees.{read_answer-reads, printable, to_after}
pub use Rattle.text_laws.proofs.ReadCertificates.{read_certificate-reads}
pub use Rattle.pip_model.specs.Run.{Budget, IsBudget, Work, Outcome, Done, Refused, Overflow, start_work, solve}
pub use Rattle.program_model.specs.ItemTexts.{certified_answer_text, certified_outcome, certified_text, value_text, made_text, made_line, sameness_text, restricted_text, same_text, least_text, pieces_text, solved_text, outcome_text, simplified_text, verdict_text, checked_text, certificate_text, shared_text}
pub use Rattle.program_model.specs.RightTexts.{IsCertified, IsValueAt, IsValueText, IsValueEnd, IsRestrictedText, IsRestrictEnd, IsSameText, IsSameEnd, IsLeastText, IsLeastEnd, ArePieces, IsPiecesText, IsPiecesEnd, IsSolvedText, IsTextOfAnswer, IsReadAs, IsSimplerAnswer, IsSimplifiedText, IsRightVerdict, IsRightSharing}
pub use Rattle.run_laws.proofs.SolveRight.{solve-right, leaves-reached}
pub use Rattle.run_laws.proofs.Printable.{solve-printable, solve-simplified-printable}
pub use Rattle.text_laws.proofs.AnswerTexts.{read_answer-spell_first, read_answer-spell, spell-injective}
pub use Rattle.text_laws.proofs.CertificateTexts.{read_certificate-spell, read_certificate-spell_first, spell_certificate-injective}
pub use Rattle.certificate_laws.proofs.FitCertificate.{certificate-fits}
pub use Rattle.certificate_laws.proofs.Accepted.{certified-answer, certificate-not_rejected, certificate-refused}
pub use Rattle.program_model.specs.Commands.{Command, item_text, Way, SolveOptions, Solve, Eval, Simplify, CheckAll, ShareAll, Trial, Restrict, Same, Least, Pieces, way, item_at, text_of, Item}
pub use Rattle.program_model.specs.Output.{IsOutput, IsFirstOutput, WritesRight, EndsRight, IsRightOutput, IsRightFirstOutput, MayBeAsked}
pub use Rattle.pip_model.specs.Limits.{most_components, most_nesting, most_params, most_context_rows, most_input_bytes}
pub use Rattle.pip_model.specs.Listed.{all_fit, dot_listed, value_listed}
pub use Rattle.pip_model.specs.Numbers.{is_nonneg, floor_div, gcd, gcd_of, same_number, fits}
pub use Rattle.pip_model.specs.Forms.{value, dot}
pub use Rattle.pip_model.specs.Rows.{Row}
pub use Rattle.pip_model.specs.Values.{value_tree, answer_at, answer_at_listed, tree_value_listed, simplified_by}
pub use Rattle.pip_model.proofs.Polynomials.{var, num, ◌⊕◌, ◌⊗◌, ring}
pub use Rattle.pip_model.proofs.Tests.{three, both_true, all_passed, same_number_yes, one_at_least, both, all_three, one_le, if_cases}
pub use Rattle.run_laws.proofs.Components.{component-is}
pub use Rattle.pip_model.proofs.Fitting.{fit_head, fit_parts, fits-floor, scope-fits}
pub use Rattle.pip_model.specs.Check.{Checks, check}
pub use Rattle.pip_model.specs.Moved.{Ended, is_closed}
pub use Rattle.pip_model.proofs.SimplerTrees.{simplified-simpler}
pub use Rattle.run_laws.proofs.Headline.{solve-simplified-right, simplified-leaves-reached, simplified-right, solve-well_formed_answer, solve-simplified-well_formed_answer}
pub use Rattle.check_laws.proofs.CheckSound.{accepted-right}
pub use Rattle.check_laws.proofs.ShareAccepted.{share-accepted, share-shares, share-kept}
pub use Rattle.check_laws.proofs.ShareReadable.{share-fits}
pub use Rattle.text_laws.proofs.LocalProblems.{read_native-alone, read_native-ends, read_native-moved}
pub use Rattle.text_laws.proofs.LocalAnswers.{read_answer-alone, read_answer-ends, read_answer-moved}
pub use Rattle.text_laws.proofs.LocalCertificates.{read_certificate-alone, read_certificate-ends, read_certificate-moved}
pub use Rattle.run_laws.proofs.ContextRight.{point-tells, class-tells, narrow_of}
pub use Rattle.std.proofs.lemmas.Bool.{leb-true, le-leb, cases_Bool}
pub use Rattle.text_laws.proofs.Binds.{then-ok, if-ok}
