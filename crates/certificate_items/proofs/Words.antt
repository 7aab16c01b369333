-- The words of other modules that the proofs of this crate cite, passed on from one place. Declares nothing.
pub use Rattle.std.proofs.Common.{◌≡◌}
pub use Rattle.std.specs.Prelude.{Err, IfSome, Ok}
pub use Rattle.std.proofs.lemmas.Result.{err_from_is_err_and}
pub use Rattle.program_model.specs.ItemTexts.{verdict_text, certificate_text}
pub use Rattle.item_writing.specs.Endings.{told}
pub use Rattle.pip_stream.proofs.Dropping.{if-map}
pub use Rattle.pip_model.specs.Certificate.{Certificate}
