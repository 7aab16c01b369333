-- A token behind one blank.
use Rattle.text_tokens.proofs.Words.{◌≡◌, ◌≤◌, ℕ, ◌+◌, ◌∙◌, ap, true, false, List, [], ◌∷◌, length, drop, arith, slice_index, is_blank, lexeme, token_here, token_in}
use Rattle.pip_model.specs.declared.Kind.{Kind}
use Rattle.pip_model.specs.declared.Lexeme.{Lexeme}

ends : (place len : ℕ) (kind : Kind) (t : Lexeme) → t ≡ lexeme (place + 1) kind len → (t.kind ≡ kind) × (t.after ≡ place + (len + 1))
ends place len kind t e = (ap (λ (x : Lexeme). x.kind) e, ap (λ (x : Lexeme). x.after) e ∙ omega arith)

behind_byte : (place len b : ℕ) (kind : Kind) (bs : List ℕ) → is_blank b ≡ true → is_blank (slice_index bs 0) ≡ false
    → token_here (place + 1) bs ≡ lexeme (place + 1) kind len
    → ((token_in place (b ∷ bs)).kind ≡ kind) × ((token_in place (b ∷ bs)).after ≡ place + (len + 1))
behind_byte place len b kind [] blank front here = rw blank (ends place len kind (token_here (place + 1) []) here)
behind_byte place len b kind (n ∷ bs) blank front here = rw (blank, front) (ends place len kind (token_here (place + 1) (n ∷ bs)) here)

pub behind_blank : (place len : ℕ) (kind : Kind) (rest bs : List ℕ) → token_here (place + 1) rest ≡ lexeme (place + 1) kind len
    → is_blank (slice_index rest 0) ≡ false → rest ≡ drop 1 bs → 1 ≤ length bs → is_blank (slice_index bs 0) ≡ true
    → ((token_in place bs).kind ≡ kind) × ((token_in place bs).after ≡ place + (len + 1))
behind_blank place len kind rest [] here front is some blank = absurd (omega arith)
behind_blank place len kind rest (b ∷ bs) here front is some blank =
    behind_byte place len b kind bs blank (rw is at front) (rw is at here)
