-- The words of other modules that the proofs of this crate cite, passed on from one place. Declares nothing.
pub use Rattle.std.proofs.Common.{◌≡◌, ◌∙◌, append_assoc, append-nil, refl, sym, subst, ap, ap₂, true, cond, List, [], ◌∷◌, Option, None, inl, inr, arith, ℕ, zero, suc, ◌+◌, ◌*◌, ◌-◌, ◌<◌, ◌≤◌, ◌&&◌, ◌==◌, Some, Bool, false, not, take, length, get_or, fold, if◌then◌else◌, option_map, find, ◌++◌, map, Bor, slice_index_or, ℤ, drop, add-one, drop-cons, string_bytes, IsTrue, nat_le, rules}
pub use Rattle.std.specs.List.{list_all}
pub use Rattle.std.specs.Str.{bytes_eq}
pub use Rattle.std.proofs.lemmas.Grind.{common_steps}
pub use Rattle.clap.specs.Words.{App, HasKind, HasMatchesOf, IsAmong, Kinds, Text, fault_of, is_simple, is_simple_and_free, kind_of, subcommand_of, subcommand_rows_of, rows_of, found_of, app_of, new_app, matches_of}
pub use Rattle.program_model.specs.Commands.{Command}
pub use Rattle.pip_model.specs.Tokens.{is_digit, natural_of}
pub use Rattle.pip_model.specs.Limits.{most_params}
pub use Rattle.pip_words.specs.Words.{pip_app, command_of, command_in, command_named, is_accepted, spellings, Spelling, Gives, meaning_of, all_parameters, ◌>>=◌}
pub use Rattle.pip_words.specs.Numbers.{number_of, parameter_of}
pub use Rattle.pip_words.specs.Arguments.{with_argument, with_entry, app_given}
pub use Rattle.std.specs.Prelude.{is_some, slice_get, ◌||◌}
pub use Rattle.clap.specs.Simple.{Shape, argument_words, built, entered, label_of, names_of, rows_at}
pub use Rattle.pip_words.specs.Alone.{app_alone, command_alone, spelling_named}
