-- The words of other modules that the proofs of this crate cite, passed on from one place. Declares nothing.
pub use Rattle.std.proofs.Common.{◌≡◌, refl, ℕ, [], ◌∷◌, false, true, pos, negsuc, List, ◌++◌, ◌-◌}
unfoldable pub use Rattle.std.specs.Fmt.{digits}
pub use Rattle.std.specs.Prelude.{codes, Option, Some, Result, Ok, length}
pub use Rattle.pip_model.specs.Run.{Budget, standard_budget}
pub use Rattle.program_model.specs.Endings.{ending, finished}
pub use Rattle.program_model.specs.Commands.{Restrict, Same, Least, Pieces, Command, Solve, CheckAll, ShareAll, Eval, Simplify, Trial}
pub use Rattle.model_rows.proofs.Writes.{Writes}
