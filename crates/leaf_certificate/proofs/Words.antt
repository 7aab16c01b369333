-- The words of other modules that the proofs of this crate cite, passed on from one place. Declares nothing.
pub use Rattle.std.proofs.Common.{◌≡◌, refl, ℕ, Bool, true, Ok, Err, Result, ◌↔◌, IsTrue, ℤ, List, codes, ◌∙◌, sym, ap, zero, suc, ◌+◌, ◌-◌, ◌<◌, ◌≤◌, arith, sub-one, false, [], ◌∷◌, ◌++◌, length, append-nil, length-append, append_assoc, flat_map, rules, drop, take, get_or}
pub use Rattle.std.specs.Prelude.{Option, Some, None, IfOk, IfSome, OnOk, All}
pub use Rattle.std.proofs.lemmas.Result.{err_from_is_err_and}
pub use Rattle.pip_model.specs.Reading.{Fault, expect, Reads, same_bracket, up_to, number}
pub use Rattle.pip_model.specs.Certificate.{Certificate, version, vector, certificate_at, Refutation, LeafProofs, spell_terms, spell_steps, spell_refutations, spell_leaves, read_certificate, leaf_proofs, step, list_of, term}
pub use Rattle.pip_model.specs.declared.Kind.TheVariants.{LeftParen, RightRow, RightParen}
pub use Rattle.pip_model.specs.TreeText.{expect_word}
pub use Rattle.pip_model.specs.Tokens.{token}
pub use Rattle.text_reading.specs.Steps.{fault_of}
pub use Rattle.affine_forms.specs.Checks.{Fits}
pub use Rattle.leaf_certificate.specs.Sequences.{leaves_to_end}
pub use Rattle.leaf_certificate.specs.Printing.{spell_term, spell_step, spell_refutation, spell_leaf, spell_head}
pub use Rattle.text_printing.proofs.Spellings.{begins_more, written, spelt_more}
