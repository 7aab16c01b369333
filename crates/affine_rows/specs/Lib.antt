pub use Rattle.affine_forms.specs.Checks
pub use Rattle.affine_forms.specs.Forms
pub use Rattle.text_tokens.specs.Tokens
