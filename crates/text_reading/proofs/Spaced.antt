-- Numbers of one digit with a blank behind each.
use Rattle.std.proofs.Common.{◌≡◌, ◌∙◌, ℕ, ℤ, zero, suc, ◌+◌, ◌-◌, ◌<◌, ◌≤◌, List, [], ◌∷◌, ◌++◌, length, drop, Ok, Err, refl, sym, ap, arith}
use Rattle.std.specs.Prelude.{slice_index}
use Rattle.std.proofs.lemmas.List.{length-drop, drop-drop, get_or-drop}
use Rattle.pip_model.specs.declared.Lexeme.{Lexeme}
use Rattle.pip_model.specs.declared.Kind.TheVariants.{Number}
use Rattle.pip_model.specs.Tokens.{is_blank, token, token_in}
use Rattle.pip_model.specs.Reading.{Reads, ◌>>=◌, number, number_of, numbers}
use Rattle.text_tokens.specs.Spaced.{IsSpaced}
use Rattle.text_tokens.proofs.SpacedNumbers.{blank_passed}
use Rattle.text_reading.specs.Fronts.{with_front}
use Rattle.text_reading.proofs.Fronts.{read_as, step_more, numbers_more}

-- numbers, one at least, are the same from where the next token is the same
pub numbers_from : (bytes : List ℕ) (n p q : ℕ) → 0 < n → token bytes p ≡ token bytes q → numbers bytes n p ≡ numbers bytes n q
numbers_from bytes zero p q some same = absurd (omega arith)
numbers_from bytes (suc n) p q some same =
    ap (λ (t : Lexeme). number_of t.kind t.start t.after >>= λ z. numbers bytes n z.1 >>= λ zs. Ok (z.0 ∷ zs.0, zs.1)) same

-- the next number is read, and the token behind it is the next one of the rest
pub record Passes (bytes rest : List ℕ) (z : ℤ) (at : ℕ) : Type 0 where
  pub after : ℕ
  pub read : number bytes at ≡ Ok (z, after)
  pub same : token bytes after ≡ token bytes (length bytes - length rest)
  pub is : rest ≡ drop (length bytes - length rest) bytes
  pub few : length rest ≤ length bytes
  pub low : at ≤ length bytes - length rest

-- one number more is read
pub passed : (bytes rest : List ℕ) (front : List ℤ) (count i at : ℕ) (y z : ℤ) (whole : Reads (List ℤ)) → i + 1 < count → y ≡ z
    → with_front front (numbers bytes (count - i) at) ≡ whole → Passes bytes rest z at
    → with_front (front ++ y ∷ []) (numbers bytes (count - (i + 1)) (length bytes - length rest)) ≡ whole
passed bytes rest front count i at y z whole more is so_far p =
    ap (λ (read : Reads (List ℤ)). with_front (front ++ y ∷ []) read) (sym (numbers_from bytes (count - (i + 1)) p.after (length bytes - length rest) (omega arith) p.same))
    ∙ step_more front y p.after (number bytes at) (λ (q : ℕ). numbers bytes (count - (i + 1)) q) _ whole (numbers_more bytes count i at (omega arith)) so_far
    (p.read ∙ ap (λ (x : ℤ). read_as x p.after) (sym is))

number_reads : (t : Lexeme) (z : ℤ) (after : ℕ) → t.kind ≡ Number z → t.after ≡ after → number_of t.kind t.start t.after ≡ Ok (z, after)
number_reads t z after kind end = rw (kind, end) refl

-- a number with a blank behind it
pub spaced_passes : (bytes rest behind : List ℕ) (z : ℤ) → rest ≡ drop (length bytes - length rest) bytes → length rest ≤ length bytes
    → IsSpaced rest z behind → Passes bytes behind z (length bytes - length rest)
spaced_passes bytes rest behind z is few s =
    let at = length bytes - length rest in
    let left : length behind ≡ length rest - (s.len + 1) = ap length s.behind ∙ length-drop (s.len + 1) rest in
    let now : length bytes - length behind ≡ at + (s.len + 1) = omega (arith, left, s.within, few) in
    let next : at + s.len + 1 ≡ length bytes - length behind = omega (arith, left, s.within, few) in
    let byte : slice_index bytes (at + s.len) ≡ slice_index rest s.len = sym (get_or-drop at bytes s.len 0) ∙ sym (ap (λ (r : List ℕ). slice_index r s.len) is) in
    let here : token bytes at ≡ token_in at rest = ap (λ (r : List ℕ). token_in at r) (sym is) in
    record {
      after = at + s.len;
      read = number_reads (token bytes at) z (at + s.len) (ap (λ (t : Lexeme). t.kind) here ∙ s.kind at) (ap (λ (t : Lexeme). t.after) here ∙ s.after at);
      same = blank_passed bytes (at + s.len) (omega (arith, s.within, few)) (ap is_blank byte ∙ s.blank) ∙ ap (λ (p : ℕ). token bytes p) next;
      is = s.behind ∙ ap (λ (r : List ℕ). drop (s.len + 1) r) is ∙ drop-drop (s.len + 1) at bytes ∙ ap (λ (n : ℕ). drop n bytes) (sym now);
      few = omega (arith, left, few);
      low = omega (arith, left, s.within, few);
    }

-- another number, behind which a space is passed
pub long_passes : (bytes behind : List ℕ) (z : ℤ) (at after q : ℕ) → number bytes at ≡ Ok (z, after) → token bytes q ≡ token bytes after
    → behind ≡ drop q bytes → after ≤ q → q ≤ length bytes → at < after → Passes bytes behind z at
long_passes bytes behind z at after q read same is more few low =
    let left : length behind ≡ length bytes - q = ap length is ∙ length-drop q bytes in
    let now : q ≡ length bytes - length behind = omega (arith, left, few) in
    record {
      after = after;
      read = read;
      same = sym same ∙ ap (λ (p : ℕ). token bytes p) now;
      is = is ∙ ap (λ (n : ℕ). drop n bytes) now;
      few = omega (arith, left, few);
      low = omega (arith, now, low, more);
    }

front_none : (read : Reads (List ℤ)) → with_front [] read ≡ read
front_none (Ok x) = refl
front_none (Err e) = refl

-- before the first number a space is passed
pub none_passed : (bytes : List ℕ) (count place q : ℕ) → 0 < count → token bytes q ≡ token bytes place → with_front [] (numbers bytes count q) ≡ numbers bytes count place
none_passed bytes count place q some same = front_none (numbers bytes count q) ∙ numbers_from bytes count q place some same
