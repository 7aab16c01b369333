-- A number whose first byte is a sign or a digit, and behind which no stroke stands.
use Rattle.text_tokens.proofs.Words.{◌≡◌, ◌≢◌, ℕ, ℤ, ◌+◌, ◌-◌, ◌∙◌, Bool, true, false, ◌⊎◌, inl, inr, List, [], ◌∷◌, length, drop, refl, arith, ◌==◌, ◌||◌, nat_tests, Number, ne_eqb, Fits, is_sign, is_digit, is_letter, digits_at, unsigned_part, behind_stroke, integer_of, lexeme, numeral_at, token_here}

not_40 : (b : ℕ) → (is_sign b || is_digit b) ≡ true → (b == 40) ≡ false
not_40 b h = grind (arith, nat_tests)

not_41 : (b : ℕ) → (is_sign b || is_digit b) ≡ true → (b == 41) ≡ false
not_41 b h = grind (arith, nat_tests)

not_93 : (b : ℕ) → (is_sign b || is_digit b) ≡ true → (b == 93) ≡ false
not_93 b h = grind (arith, nat_tests)

not_35 : (b : ℕ) → (is_sign b || is_digit b) ≡ true → (b == 35) ≡ false
not_35 b h = grind (arith, nat_tests)

no_letter : (b : ℕ) → (is_sign b || is_digit b) ≡ true → is_letter b ≡ false
no_letter b h = grind (arith, nat_tests)

yes_no : (b : Bool) → (b ≡ true) ⊎ (b ≡ false)
yes_no true = inl refl
yes_no false = inr refl

-- a token that begins with a sign or a digit is a numeral
numeral_here : (place b : ℕ) (bs : List ℕ) → (is_sign b || is_digit b) ≡ true → token_here place (b ∷ bs) ≡ numeral_at place (b ∷ bs)
numeral_here place b bs h = rw (not_40 b h, not_41 b h, not_93 b h, not_35 b h, no_letter b h) refl

first_byte : (b : ℕ) (bs : List ℕ) → length (digits_at (unsigned_part (b ∷ bs))) ≢ 0 → (is_sign b || is_digit b) ≡ true
first_byte b bs some = elim (yes_no (is_sign b)) [
  | inl sign ↦ rw sign refl
  | inr none ↦ elim (yes_no (is_digit b)) [ inl digit ↦ rw (none, digit) refl | inr other ↦ absurd (some (rw (none, other) refl)) ]
]

number_at : (place digits : ℕ) (z : ℤ) (bs : List ℕ) → digits ≡ length (digits_at (unsigned_part bs)) → digits ≢ 0
    → length (digits_at (behind_stroke (drop (length bs - length (unsigned_part bs) + digits) bs))) ≡ 0
    → z ≡ integer_of bs → Fits z
    → token_here place bs ≡ lexeme place (Number z) (length bs - length (unsigned_part bs) + digits)
number_at place digits z [] count some over same fitting = absurd (some count)
number_at place digits z (b ∷ bs) count some over same fitting =
    let more : length (digits_at (unsigned_part (b ∷ bs))) ≢ 0 = λ e. some (count ∙ e) in
    numeral_here place b bs (first_byte b bs more) ∙ rw (← count, ne_eqb digits 0 some, over, ← same, fitting) refl

-- where so many digits, at least one, spell a number that fits and no digit stands behind a stroke, it is the token
pub number_here : (place digits : ℕ) (z : ℤ) (rest bs : List ℕ) → rest ≡ unsigned_part bs → digits ≡ length (digits_at rest) → digits ≢ 0
    → length (digits_at (behind_stroke (drop (length bs - length rest + digits) bs))) ≡ 0
    → z ≡ integer_of bs → Fits z → token_here place bs ≡ lexeme place (Number z) (length bs - length rest + digits)
number_here place digits z rest bs e count some over same fitting =
    rw e (number_at place digits z bs (rw e at count) some (rw e at over) same fitting)
