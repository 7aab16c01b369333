-- One more byte of a group.
use Rattle.text_tokens.proofs.Words.{◌≡◌, ◌≢◌, ℕ, ◌+◌, ◌<◌, List, length, drop, add-one, add-suc, drop-cons, refl, slice_index, ne_eqb, open_after, closing}

pub closing_step : (depth now place i : ℕ) (rest : List ℕ) → i < length rest → now ≡ open_after depth (slice_index rest i) → now ≢ 0
    → closing depth (place + i) (drop i rest) ≡ closing now (place + (i + 1)) (drop (i + 1) rest)
closing_step depth now place i rest h e some = rw (drop-cons rest i 0 h, ← e, ne_eqb now 0 some, add-one, add-suc place i) refl

-- a byte that is no bracket leaves what is open
pub other_byte : (depth b : ℕ) → b ≢ 40 → b ≢ 41 → depth ≡ open_after depth b
other_byte depth b not_open not_closed = rw (ne_eqb b 40 not_open, ne_eqb b 41 not_closed) refl
