-- A number with a blank behind it.
use Rattle.std.specs.Prelude.{◌≡◌, ℕ, ◌+◌, ◌<◌, ℤ, List, length, drop, slice_index, true}
use Rattle.pip_model.specs.declared.Kind.TheVariants.{Number}
use Rattle.pip_model.specs.Tokens.{is_blank, token_in}

-- the first token is the number z; a blank stands behind it, and then the rest
pub record IsSpaced (bytes : List ℕ) (z : ℤ) (rest : List ℕ) : Type 0 where
  pub len : ℕ
  pub within : len < length bytes
  pub kind : (place : ℕ) → (token_in place bytes).kind ≡ Number z
  pub after : (place : ℕ) → (token_in place bytes).after ≡ place + len
  pub blank : is_blank (slice_index bytes len) ≡ true
  pub behind : rest ≡ drop (len + 1) bytes
