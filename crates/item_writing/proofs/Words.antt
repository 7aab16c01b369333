-- The words of other modules that the proofs of this crate cite, passed on from one place. Declares nothing.
pub use Rattle.std.proofs.Common.{◌≡◌, refl, false, sym, subst, ◌∙◌, ap, ℕ, List, [], ◌∷◌, ◌++◌, Option, Some, None, ◌+◌, ◌<◌, inr, arith, Bool, true, ◌≤◌, inl, length, ◌-◌, rules, vec_len}
pub use Rattle.std.specs.Prelude.{Err, IfSome, Ok, Result, if◌then◌else◌, IfErr, IsErrOf, Vec, MatchBool, ⊤}
pub use Rattle.std.proofs.KnownBytes.{Appends-nil, Appends-trans}
pub use Rattle.std.proofs.lemmas.List.{append-nil}
pub use Rattle.std.specs.List.{concat}
pub use Rattle.std.specs.Io.KnownBytes.{Appends, Consumes, Keeps}
pub use Rattle.std.specs.declared.alloc.Global.{Global}
pub use Rattle.std.proofs.lemmas.Result.{err_from_is_err_and}
pub use Rattle.item_writing.specs.Endings.{told, IsOfItem}
pub use Rattle.pip_outside.specs.Bytes.{AppendsFront}
pub use Rattle.program_model.specs.Endings.{Ending, finished}
pub use Rattle.program_model.specs.Items.{ItemAt, Ends, FirstItems, FirstItemsTo, Items, IsItself, NoEnd}
pub use Rattle.headline.proofs.FirstItems.{first_items-more, first_items-first, first_items-end}
pub use Rattle.pip_outside.specs.Calls.{Takes, AsksOn}
pub use Rattle.pip_outside.proofs.Calls.{takes-none, takes-more, asks-none}
pub use Rattle.program_model.specs.Commands.{Command, item_text, way}
pub use Rattle.pip_model.specs.Limits.{most_input_bytes}
pub use Rattle.pip_outside.proofs.Faults.{counts-none, counts-as, counts-refused}
pub use Rattle.item_writing.specs.Items.{Gained, GainedFront, WritesTill, Writes, WritesItems}
pub use Rattle.item_writing.specs.ByProblem.{reads_by_problem, StopsAtRefused, WritesOf, FailsInTime}
pub use Rattle.item_writing.specs.Inputs.{IsOfInput, ReadsInput}
pub use Rattle.item_writing.specs.Outputs.{TakesInputAtMost, EndsByFaults, WritesOutput, TakesInput, bytes_read}
