-- Words as the code has them.
use Rattle.std.specs.Prelude.{ℕ, Bool, not, ◌&&◌, ◌==◌}
use Rattle.pip_model.specs.Tokens.{is_blank}
use Rattle.pip_model.specs.MatrixText.{Word}
use Rattle.polylib_reader.specs.declared.word.Word.{Word as Run}

-- the byte belongs to a word
abbrev pub is_word_byte : ℕ → Bool
is_word_byte b = not (is_blank b) && not (b == 35)

-- what the code's word is in the model
abbrev pub word_of : Run → Word
word_of w = record { text = w.text.now; start = w.start; after = w.after }
