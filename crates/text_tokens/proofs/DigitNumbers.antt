-- A number of one digit, behind which a byte stands that ends a number.
use Rattle.text_tokens.proofs.Words.{◌≡◌, ◌≤◌, ℕ, ℤ, ◌+◌, ◌-◌, ◌^◌, ◌∙◌, ap, sym, true, false, pos, List, [], ◌∷◌, length, refl, arith, ◌==◌, ◌||◌, nat_lt, neg_ℤ, slice_index, nat_tests, lt-ltb, Number, Fits, is_sign, is_blank, is_digit, digits_at, unsigned_part, behind_stroke, integer_of, lexeme, token_here}
use Rattle.pip_model.proofs.Fitting.{fits-neg}
use Rattle.text_tokens.proofs.ShortNumbers.{number_here}

pub digit_no_blank : (b : ℕ) → is_digit b ≡ true → is_blank b ≡ false
digit_no_blank b h = grind (arith, nat_tests)

digit_no_sign : (b : ℕ) → is_digit b ≡ true → is_sign b ≡ false
digit_no_sign b h = grind (arith, nat_tests)

digit_no_minus : (b : ℕ) → is_digit b ≡ true → (b == 45) ≡ false
digit_no_minus b h = grind (arith, nat_tests)

end_no_digit : (n : ℕ) → (nat_lt n 47 || nat_lt 57 n) ≡ true → is_digit n ≡ false
end_no_digit n h = grind (arith, nat_tests)

end_no_stroke : (n : ℕ) → (nat_lt n 47 || nat_lt 57 n) ≡ true → (n == 47) ≡ false
end_no_stroke n h = grind (arith, nat_tests)

digit_small : (b : ℕ) → is_digit b ≡ true → b ≤ 57
digit_small b h = grind (arith, nat_tests)

digit_fits : (b : ℕ) → is_digit b ≡ true → Fits (pos (b - 48))
digit_fits b h = let small = digit_small b h in lt-ltb (b - 48) (2 ^ 127) (omega (arith, small))

-- the digit alone is spelled
one_digit : (b n : ℕ) (bs : List ℕ) → is_digit b ≡ true → is_digit n ≡ false → digits_at (b ∷ n ∷ bs) ≡ b ∷ []
one_digit b n bs h k = rw (h, k) refl

no_stroke : (n : ℕ) (bs : List ℕ) → (n == 47) ≡ false → length (digits_at (behind_stroke (n ∷ bs))) ≡ 0
no_stroke n bs h = rw h refl

no_sign : (b : ℕ) (bs : List ℕ) → is_digit b ≡ true → b ∷ bs ≡ unsigned_part (b ∷ bs)
no_sign b bs h = rw (digit_no_sign b h) refl

digit_integer : (b n : ℕ) (bs : List ℕ) → is_digit b ≡ true → is_digit n ≡ false → pos (b - 48) ≡ integer_of (b ∷ n ∷ bs)
digit_integer b n bs h k = rw (digit_no_sign b h, digit_no_minus b h, one_digit b n bs h k) (ap pos (omega arith))

minus_integer : (b n : ℕ) (bs : List ℕ) → is_digit b ≡ true → is_digit n ≡ false → neg_ℤ (pos (b - 48)) ≡ integer_of (45 ∷ b ∷ n ∷ bs)
minus_integer b n bs h k = rw (one_digit b n bs h k) (ap (λ m. neg_ℤ (pos m)) (omega arith))

digit_first : (place b n : ℕ) (bs : List ℕ) → is_digit b ≡ true → is_digit n ≡ false → (n == 47) ≡ false
    → token_here place (b ∷ n ∷ bs) ≡ lexeme place (Number (pos (b - 48))) 1
digit_first place b n bs h k s =
    let len : length (b ∷ n ∷ bs) - length (b ∷ n ∷ bs) + 1 ≡ 1 = omega arith in
    number_here place 1 (pos (b - 48)) (b ∷ n ∷ bs) (b ∷ n ∷ bs) (no_sign b (n ∷ bs) h) (sym (ap length (one_digit b n bs h k))) (omega arith)
    (rw len (no_stroke n bs s)) (digit_integer b n bs h k) (digit_fits b h)
    ∙ ap (lexeme place (Number (pos (b - 48)))) len

minus_first : (place b n : ℕ) (bs : List ℕ) → is_digit b ≡ true → is_digit n ≡ false → (n == 47) ≡ false
    → token_here place (45 ∷ b ∷ n ∷ bs) ≡ lexeme place (Number (neg_ℤ (pos (b - 48)))) 2
minus_first place b n bs h k s =
    let len : length (45 ∷ b ∷ n ∷ bs) - length (b ∷ n ∷ bs) + 1 ≡ 2 = omega arith in
    number_here place 1 (neg_ℤ (pos (b - 48))) (b ∷ n ∷ bs) (45 ∷ b ∷ n ∷ bs) refl (sym (ap length (one_digit b n bs h k))) (omega arith)
    (rw len (no_stroke n bs s)) (minus_integer b n bs h k) (fits-neg (pos (b - 48)) (digit_fits b h))
    ∙ ap (lexeme place (Number (neg_ℤ (pos (b - 48))))) len

-- one digit at the front
pub digit_here : (place : ℕ) (z : ℤ) (bs : List ℕ) → 2 ≤ length bs → is_digit (slice_index bs 0) ≡ true
    → (nat_lt (slice_index bs 1) 47 || nat_lt 57 (slice_index bs 1)) ≡ true
    → z ≡ pos (slice_index bs 0 - 48) → token_here place bs ≡ lexeme place (Number z) 1
digit_here place z [] some digit end is = absurd (omega arith)
digit_here place z (b ∷ []) some digit end is = absurd (omega arith)
digit_here place z (b ∷ n ∷ bs) some digit end is = rw is (digit_first place b n bs digit (end_no_digit n end) (end_no_stroke n end))

minus_bytes : (place a b n : ℕ) (bs : List ℕ) → a ≡ 45 → is_digit b ≡ true → is_digit n ≡ false → (n == 47) ≡ false
    → token_here place (a ∷ b ∷ n ∷ bs) ≡ lexeme place (Number (neg_ℤ (pos (b - 48)))) 2
minus_bytes place a b n bs e h k s = rw e (minus_first place b n bs h k s)

-- a `-` and one digit at the front
pub minus_here : (place : ℕ) (z : ℤ) (bs : List ℕ) → 3 ≤ length bs → slice_index bs 0 ≡ 45 → is_digit (slice_index bs 1) ≡ true
    → (nat_lt (slice_index bs 2) 47 || nat_lt 57 (slice_index bs 2)) ≡ true
    → z ≡ neg_ℤ (pos (slice_index bs 1 - 48)) → token_here place bs ≡ lexeme place (Number z) 2
minus_here place z [] some minus digit end is = absurd (omega arith)
minus_here place z (a ∷ []) some minus digit end is = absurd (omega arith)
minus_here place z (a ∷ b ∷ []) some minus digit end is = absurd (omega arith)
minus_here place z (a ∷ b ∷ n ∷ bs) some minus digit end is =
    rw is (minus_bytes place a b n bs minus digit (end_no_digit n end) (end_no_stroke n end))
