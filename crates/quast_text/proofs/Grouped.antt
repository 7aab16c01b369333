-- Readers in a row, of which some are read as one.
use Rattle.quast_text.proofs.Words.{◌≡◌, refl, sym, ℕ, ◌+◌, List, LeftRow, RightRow, token, Fault, Reads, ◌>>=◌, expect, fractions, component, component_of, bracketed_fractions}
use Rattle.std.specs.Prelude.{Result, Ok, Err}

module _ {A C : Type 0} (g : ℕ → Result ℕ Fault) (h : A × ℕ → Result C Fault) where
  abbrev with_place : A → ℕ → Reads A
  with_place v z = Ok (v, z)

  abbrev on_place : A → ℕ → Result C Fault
  on_place v z = h (v, z)

  closed : (v : A) (r : Result ℕ Fault) → ((r >>= with_place v) >>= h) ≡ (r >>= on_place v)
  closed v (Ok z) = refl
  closed v (Err e) = refl

  read_closed : (r : Reads A) → ((r >>= λ y. g y.1 >>= with_place y.0) >>= h) ≡ (r >>= λ y. g y.1 >>= on_place y.0)
  read_closed (Ok y) = closed y.0 (g y.1)
  read_closed (Err e) = refl

  pub grouped : (r : Result ℕ Fault) (f : ℕ → Reads A) → ((r >>= λ x. f x >>= λ y. g y.1 >>= with_place y.0) >>= h) ≡ (r >>= λ x. f x >>= λ y. g y.1 >>= on_place y.0)
  grouped (Ok x) f = read_closed (f x)
  grouped (Err e) f = refl

pub component_by : (bytes : List ℕ) (w place : ℕ) → component bytes w place ≡ (bracketed_fractions bytes (w + 1) place >>= λ fs. component_of (token bytes place).start fs.0 >>= λ c. Ok (c, fs.1))
unfolding bracketed_fractions
component_by bytes w place =
    sym (grouped (λ at. expect bytes RightRow at) (λ fs. component_of (token bytes place).start fs.0 >>= λ c. Ok (c, fs.1)) (expect bytes LeftRow place) (λ at. fractions bytes (w + 1) at))
