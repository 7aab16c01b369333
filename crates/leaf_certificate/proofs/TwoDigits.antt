-- A number of two digits behind a space, behind which a byte stands that ends a number.
use Rattle.leaf_certificate.proofs.Words.{◌≡◌, ◌∙◌, ap, sym, refl, ℕ, ℤ, ◌+◌, ◌-◌, ◌≤◌, true, false, List, [], ◌∷◌, length, arith, Fits}
use Rattle.std.proofs.Common.{pos, ◌*◌}
use Rattle.std.specs.Prelude.{◌==◌, ◌||◌, ◌^◌, nat_lt, slice_index}
use Rattle.std.proofs.lemmas.Bool.Decides.{nat_tests}
use Rattle.std.proofs.lemmas.Bool.{lt-ltb}
use Rattle.pip_model.specs.declared.Kind.TheVariants.{Number}
use Rattle.pip_model.specs.Tokens.{is_sign, is_blank, is_digit, digits_at, unsigned_part, behind_stroke, integer_of, lexeme, token_here, token_in}
use Rattle.text_tokens.proofs.Blanks.{behind_blank}
use Rattle.text_tokens.proofs.DigitNumbers.{digit_no_blank}
use Rattle.text_tokens.proofs.ShortNumbers.{number_here}

abbrev spelled : ℕ → ℕ → ℤ
spelled b d = pos ((b - 48) * 10 + (d - 48))

digit_no_sign : (b : ℕ) → is_digit b ≡ true → is_sign b ≡ false
digit_no_sign b h = grind (arith, nat_tests)

digit_no_minus : (b : ℕ) → is_digit b ≡ true → (b == 45) ≡ false
digit_no_minus b h = grind (arith, nat_tests)

end_no_digit : (n : ℕ) → (nat_lt n 47 || nat_lt 57 n) ≡ true → is_digit n ≡ false
end_no_digit n h = grind (arith, nat_tests)

end_no_stroke : (n : ℕ) → (nat_lt n 47 || nat_lt 57 n) ≡ true → (n == 47) ≡ false
end_no_stroke n h = grind (arith, nat_tests)

digit_small : (b : ℕ) → is_digit b ≡ true → b ≤ 57
digit_small b h = grind (arith, nat_tests)

pub spelled_fits : (b d : ℕ) → is_digit b ≡ true → is_digit d ≡ true → Fits (spelled b d)
spelled_fits b d h k =
    let small = digit_small b h in
    let same = digit_small d k in
    lt-ltb ((b - 48) * 10 + (d - 48)) (2 ^ 127) (omega (arith, small, same))

module _ (b d n : ℕ) (bs : List ℕ) (h : is_digit b ≡ true) (k : is_digit d ≡ true) (e : (nat_lt n 47 || nat_lt 57 n) ≡ true) where
  abbrev front : List ℕ
  front = b ∷ d ∷ n ∷ bs

  spelt : digits_at (b ∷ d ∷ n ∷ bs) ≡ b ∷ d ∷ []
  spelt = rw (h, k, end_no_digit n e) refl

  unsigned : b ∷ d ∷ n ∷ bs ≡ unsigned_part (b ∷ d ∷ n ∷ bs)
  unsigned = rw (digit_no_sign b h) refl

  no_stroke : length (digits_at (behind_stroke (n ∷ bs))) ≡ 0
  no_stroke = rw (end_no_stroke n e) refl

  number : spelled b d ≡ integer_of (b ∷ d ∷ n ∷ bs)
  number = rw (digit_no_sign b h, digit_no_minus b h, spelt) (ap pos (omega arith))

  here : (place : ℕ) → token_here place (b ∷ d ∷ n ∷ bs) ≡ lexeme place (Number (spelled b d)) 2
  here place =
      let len : length (b ∷ d ∷ n ∷ bs) - length (b ∷ d ∷ n ∷ bs) + 2 ≡ 2 = omega arith in
      number_here place 2 (spelled b d) (b ∷ d ∷ n ∷ bs) (b ∷ d ∷ n ∷ bs) unsigned (sym (ap length spelt)) (omega arith) (rw len no_stroke) number (spelled_fits b d h k)
      ∙ ap (lexeme place (Number (spelled b d))) len

spaced : (place a b d n : ℕ) (bs : List ℕ) → a ≡ 32 → is_digit b ≡ true → is_digit d ≡ true → (nat_lt n 47 || nat_lt 57 n) ≡ true
    → ((token_in place (a ∷ b ∷ d ∷ n ∷ bs)).kind ≡ Number (spelled b d)) × ((token_in place (a ∷ b ∷ d ∷ n ∷ bs)).after ≡ place + 3)
spaced place a b d n bs space h k e =
    behind_blank place 2 (Number (spelled b d)) (b ∷ d ∷ n ∷ bs) (a ∷ b ∷ d ∷ n ∷ bs) (here b d n bs h k e (place + 1)) (digit_no_blank b h) refl (omega arith) (ap is_blank space)

-- two digits behind a space at the front
pub two_spaced : (place : ℕ) (z : ℤ) (bs : List ℕ) → 4 ≤ length bs → slice_index bs 0 ≡ 32 → is_digit (slice_index bs 1) ≡ true → is_digit (slice_index bs 2) ≡ true
    → (nat_lt (slice_index bs 3) 47 || nat_lt 57 (slice_index bs 3)) ≡ true → z ≡ spelled (slice_index bs 1) (slice_index bs 2)
    → ((token_in place bs).kind ≡ Number z) × ((token_in place bs).after ≡ place + 3)
two_spaced place z [] some space h k e is = absurd (omega arith)
two_spaced place z (a ∷ []) some space h k e is = absurd (omega arith)
two_spaced place z (a ∷ b ∷ []) some space h k e is = absurd (omega arith)
two_spaced place z (a ∷ b ∷ d ∷ []) some space h k e is = absurd (omega arith)
two_spaced place z (a ∷ b ∷ d ∷ n ∷ bs) some space h k e is = rw is (spaced place a b d n bs space h k e)
