-- A blank is passed; a number stands at the front.
use Rattle.text_tokens.proofs.Words.{◌≡◌, ◌<◌, ◌≤◌, ℕ, ℤ, ◌+◌, ◌-◌, ◌∙◌, ap, sym, true, false, pos, neg_ℤ, List, [], ◌∷◌, length, drop, drop-cons, add-one, arith, ◌||◌, nat_lt, slice_index, Number, is_blank, is_digit, lexeme, token_here, token_in}
use Rattle.std.proofs.Common.{suc}
use Rattle.std.specs.Prelude.{take_while}
use Rattle.std.specs.List.{prefix_len}
use Rattle.std.proofs.lemmas.List.Folds.{length-prefix_len}
use Rattle.pip_model.specs.declared.Lexeme.{Lexeme}
use Rattle.pip_model.specs.Tokens.{token}
use Rattle.text_tokens.specs.Spaced.{IsSpaced}
use Rattle.text_tokens.proofs.DigitNumbers.{digit_here, minus_here, digit_no_blank}

one_more : (b : ℕ) (bs : List ℕ) → is_blank b ≡ true → length (take_while is_blank (b ∷ bs)) ≡ suc (length (take_while is_blank bs))
one_more b bs h =
    let more : prefix_len is_blank (b ∷ bs) ≡ suc (prefix_len is_blank bs) = rw h (omega arith) in
    length-prefix_len is_blank (b ∷ bs) ∙ more ∙ ap suc (sym (length-prefix_len is_blank bs))

blank_first : (place b : ℕ) (bs : List ℕ) → is_blank b ≡ true → token_in place (b ∷ bs) ≡ token_in (suc place) bs
blank_first place b bs h =
    ap (λ (n : ℕ). token_here (place + n) (drop n (b ∷ bs))) (one_more b bs h)
    ∙ ap (λ (p : ℕ). token_here p (drop (length (take_while is_blank bs)) bs)) (omega arith)

-- the next token from a blank on is that behind it
pub blank_passed : (bytes : List ℕ) (p : ℕ) → p < length bytes → is_blank (slice_index bytes p) ≡ true → token bytes p ≡ token bytes (p + 1)
blank_passed bytes p h blank = rw (drop-cons bytes p 0 h, add-one) (blank_first p (slice_index bytes p) (drop (suc p) bytes) blank)

no_blank_first : (place : ℕ) (bs : List ℕ) → 0 < length bs → is_blank (slice_index bs 0) ≡ false → token_in place bs ≡ token_here place bs
no_blank_first place [] some front = absurd (omega arith)
no_blank_first place (b ∷ bs) some front = rw front (ap (λ (p : ℕ). token_here p (b ∷ bs)) (omega arith))

module _ (len : ℕ) (z : ℤ) (bs rest : List ℕ) (within : len < length bs) (front : is_blank (slice_index bs 0) ≡ false) (here : (place : ℕ) → token_here place bs ≡ lexeme place (Number z) len) (gap : slice_index bs len ≡ 32) (behind : rest ≡ drop (len + 1) bs) where
  first : (place : ℕ) → token_in place bs ≡ lexeme place (Number z) len
  first place = no_blank_first place bs (omega arith) front ∙ here place

  spaced : IsSpaced bs z rest
  spaced = record {
    len = len;
    within = within;
    kind = λ place. ap (λ (x : Lexeme). x.kind) (first place);
    after = λ place. ap (λ (x : Lexeme). x.after) (first place);
    blank = ap is_blank gap;
    behind = behind;
  }

ends : (n : ℕ) → n ≡ 32 → (nat_lt n 47 || nat_lt 57 n) ≡ true
ends n e = ap (λ m. nat_lt m 47 || nat_lt 57 m) e

-- one digit and a space at the front
pub digit_spaced : (z : ℤ) (bs rest : List ℕ) → 2 ≤ length bs → is_digit (slice_index bs 0) ≡ true → slice_index bs 1 ≡ 32
    → z ≡ pos (slice_index bs 0 - 48) → rest ≡ drop 2 bs → IsSpaced bs z rest
digit_spaced z bs rest some digit gap is behind =
    spaced 1 z bs rest (omega arith) (digit_no_blank (slice_index bs 0) digit) (λ place. digit_here place z bs some digit (ends _ gap) is) gap behind

-- a `-`, one digit and a space at the front
pub minus_spaced : (z : ℤ) (bs rest : List ℕ) → 3 ≤ length bs → slice_index bs 0 ≡ 45 → is_digit (slice_index bs 1) ≡ true → slice_index bs 2 ≡ 32
    → z ≡ neg_ℤ (pos (slice_index bs 1 - 48)) → rest ≡ drop 3 bs → IsSpaced bs z rest
minus_spaced z bs rest some minus digit gap is behind =
    spaced 2 z bs rest (omega arith) (ap is_blank minus) (λ place. minus_here place z bs some minus digit (ends _ gap) is) gap behind
