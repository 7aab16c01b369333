-- The words of other modules that the proofs of this crate cite, passed on from one place. Declares nothing.
pub use Rattle.std.proofs.Common.{◌≡◌, ◌≢◌, ℕ, ℤ, ◌+◌, ◌-◌, ◌∙◌, Bool, true, false, ◌⊎◌, inl, inr, List, [], ◌∷◌, length, drop, refl, arith, ◌≤◌, ap, ◌<◌, add-one, add-suc, drop-cons, ◌^◌, sym, pos, rules, take, length-drop, min}
pub use Rattle.std.specs.Prelude.{◌==◌, ◌||◌, nat_lt, slice_index, neg_ℤ}
pub use Rattle.std.proofs.lemmas.Bool.Decides.{nat_tests}
pub use Rattle.std.proofs.lemmas.Bool.{ne_eqb, lt-ltb}
pub use Rattle.pip_model.specs.declared.Kind.TheVariants.{Number}
pub use Rattle.affine_forms.specs.Checks.{Fits}
pub use Rattle.pip_model.specs.Tokens.{is_sign, is_digit, is_letter, digits_at, unsigned_part, behind_stroke, integer_of, lexeme, numeral_at, token_here, is_blank, token_in, natural_of}
pub use Rattle.pip_model.specs.Reading.{open_after, closing, next_open}
