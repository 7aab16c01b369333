-- Option words, one more at a time.
use Rattle.polylib_reader.proofs.Words.{◌≡◌, ◌∙◌, ℕ, suc, ◌+◌, ◌-◌, ◌<◌, List, length, Bool, false, Ok, Err, Result, sym, ap, arith, ◌==◌, Fault, ◌>>=◌, Word, word, accepted_option, options}

options-more : (bytes : List ℕ) (integer : Bool) (n i place : ℕ) (w : Word) → w ≡ word bytes place → i < n → (length w.text == 0) ≡ false
    → options bytes (n - i) integer place ≡ (accepted_option w >>= λ after. options bytes (n - (i + 1)) false after)
options-more bytes integer n i place w is h some =
    let left : n - i ≡ suc (n - (i + 1)) = omega arith in
    let found : (length (word bytes place).text == 0) ≡ false = ap (λ (v : Word). length v.text == 0) (sym is) ∙ some in
    ap (λ k. options bytes k integer place) left ∙ rw found (ap (λ (v : Word). accepted_option v >>= λ after. options bytes (n - (i + 1)) false after) (sym is))

pub options_kept : (bytes : List ℕ) (integer : Bool) (n i place : ℕ) (w : Word) (after : ℕ) (whole : Result Bool Fault) → w ≡ word bytes place → i < n → (length w.text == 0) ≡ false
    → options bytes (n - i) integer place ≡ whole → accepted_option w ≡ Ok after → options bytes (n - (i + 1)) false after ≡ whole
options_kept bytes integer n i place w after whole is h some so_far e =
    sym (options-more bytes integer n i place w is h some ∙ ap (λ (r : Result ℕ Fault). r >>= λ x. options bytes (n - (i + 1)) false x) e) ∙ so_far

pub option_refused : (bytes : List ℕ) (integer : Bool) (n i place : ℕ) (w : Word) (whole : Result Bool Fault) → w ≡ word bytes place → i < n → (length w.text == 0) ≡ false
    → options bytes (n - i) integer place ≡ whole → (f : Fault) → accepted_option w ≡ Err f → whole ≡ Err f
option_refused bytes integer n i place w whole is h some so_far f e =
    sym so_far ∙ options-more bytes integer n i place w is h some ∙ ap (λ (r : Result ℕ Fault). r >>= λ x. options bytes (n - (i + 1)) false x) e
