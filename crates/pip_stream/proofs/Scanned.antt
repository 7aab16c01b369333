-- The bytes of a group that were scanned, and those behind them.
use Rattle.pip_stream.proofs.Words.{◌≡◌, refl, sym, ap, ◌∙◌, ℕ, ◌-◌, ◌<◌, inl, inr, arith, List, ◌∷◌, ◌++◌, length, take, drop, take-add, nil_from_length, Some, None, next_open, first_group_end}
use Rattle.std.proofs.lemmas.Bool.{cases_lt}
use Rattle.pip_stream.proofs.Groups.{opened, group_end-ends}

-- the first byte is a `(`
pub record Begins (bytes : List ℕ) : Type 0 where
  pub tail : List ℕ
  pub is : bytes ≡ 40 ∷ tail

pub begins : (bytes : List ℕ) → next_open 0 bytes ≡ Some 0 → Begins bytes
begins bytes h = let o = opened bytes 0 h in record { tail = o.tail; is = o.is ∙ ap (λ s. s ++ (40 ∷ o.tail)) (nil_from_length o.before o.count) }

pub begins_some : (bytes : List ℕ) → next_open 0 bytes ≡ Some 0 → 0 < length bytes
begins_some bytes h = let b = begins bytes h in omega (arith, ap length b.is)

pub open-longer : (bytes more : List ℕ) → next_open 0 bytes ≡ Some 0 → next_open 0 (bytes ++ more) ≡ Some 0
open-longer bytes more h = let b = begins bytes h in rw b.is refl

-- a group that had not ended among the first bytes ends behind them
pub ends-later : (bytes : List ℕ) (seen n : ℕ) → first_group_end (take seen bytes) ≡ None → first_group_end bytes ≡ Some n → seen < n
ends-later bytes seen n h e =
    elim (cases_lt seen n) [
      | inl high ↦ high
      | inr low ↦
          let front : take n bytes ++ take (seen - n) (drop n bytes) ≡ take seen bytes = sym (take-add n (seen - n) bytes) ∙ ap (λ k. take k bytes) (omega arith) in
          let ended : first_group_end (take seen bytes) ≡ Some n = ap first_group_end (sym front) ∙ (group_end-ends (take n bytes) n (group_end-ends bytes n e).alone).longer (take (seen - n) (drop n bytes)) in
          absurd cc
    ]
