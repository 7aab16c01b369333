-- What is read of a certificate has no more steps in a refutation than the text has bytes.
use Rattle.text_laws.proofs.Words.{arith, ◌≡◌, refl, ap₂, ℕ, zero, suc, ◌≤◌, List, length, Bool, true, inl, inr, le-leb, cases_Bool, drop, Option, Some, None, IfOk, IfSome, codes, ⊤, list_all, Kind, LeftParen, RightParen, token, Reads, expect, same_bracket, up_to, item_at, next_open, expect_word, LeafProofs, step, list_of, shared_steps, leaf_proofs, version, vector, certificate_at, read_certificate, has_few, few_steps, ◌&&◌}
use Rattle.text_laws.proofs.Binds.{then-ok}
use Rattle.text_laws.proofs.ReadPlaces.{any, weaker}

module _ {A : Type 0} (bytes : List ℕ) (close : Kind) (read : ℕ → Reads A) (fit : A → Bool) (each : (p : ℕ) → IfOk (read p) (λ x. fit x.0 ≡ true)) where
  up_to-few : (left place : ℕ) → IfOk (up_to bytes close read left place) (λ xs. (list_all fit xs.0 ≡ true) × (length xs.0 ≤ left))
  up_to-few zero place = tt
  up_to-few (suc left) place =
      elim (cases_Bool (same_bracket (token bytes place).kind close)) [
        | inl closed ↦ rw closed (refl, omega arith)
        | inr more ↦ rw more (
            then-ok _ _ (λ x. fit x.0 ≡ true) _ (each place) (λ x p.
            then-ok _ _ (λ xs. (list_all fit xs.0 ≡ true) × (length xs.0 ≤ left)) _ (up_to-few left x.1) (λ xs q.
            (ap₂ ◌&&◌ p q.0, omega (arith, q.1)))))
      ]

module _ (bytes : List ℕ) where
  refutation-few : (place : ℕ) → IfOk (list_of bytes (step bytes) place) (λ x. has_few (length bytes) x.0 ≡ true)
  refutation-few place =
      then-ok _ _ (λ first. ⊤) _ (any (expect bytes LeftParen place)) (λ first p.
      weaker _ (λ xs. (list_all (λ s. true) xs.0 ≡ true) × (length xs.0 ≤ length bytes)) _ (up_to-few bytes RightParen (step bytes) (λ s. true) (λ p. weaker _ (λ x. ⊤) _ (any (step bytes p)) (λ x q. refl)) (length bytes) first) (λ xs q.
      le-leb (length xs.0) (length bytes) q.1))

  abbrev few_leaf : LeafProofs → Bool
  few_leaf p = list_all (has_few (length bytes)) p.refutations

  leaf-few : (shares : Bool) (place : ℕ) → IfOk (leaf_proofs bytes shares place) (λ p. few_leaf p.0 ≡ true)
  leaf-few shares place =
      then-ok _ _ (λ first. ⊤) _ (any (expect bytes LeftParen place)) (λ first p.
      then-ok _ _ (λ ss. ⊤) _ (any (shared_steps bytes shares first)) (λ ss q.
      then-ok _ _ (λ xs. (list_all (has_few (length bytes)) xs.0 ≡ true) × (length xs.0 ≤ length bytes)) _ (up_to-few bytes RightParen (list_of bytes (step bytes)) (has_few (length bytes)) refutation-few (length bytes) ss.1) (λ rs r.
      r.0)))

  certificate_at-few : (place : ℕ) → IfOk (certificate_at bytes place) (λ c. few_steps (length bytes) c.0 ≡ true)
  certificate_at-few place =
      then-ok _ _ (λ first. ⊤) _ (any (expect bytes LeftParen place)) (λ first p1.
      then-ok _ _ (λ word. ⊤) _ (any (expect_word bytes (codes "certificate") first)) (λ word p2.
      then-ok _ _ (λ v. ⊤) _ (any (version bytes word)) (λ shares p3.
      then-ok _ _ (λ v. ⊤) _ (any (vector bytes shares.1)) (λ v p4.
      then-ok _ _ (λ ls. (list_all few_leaf ls.0 ≡ true) × (length ls.0 ≤ length bytes)) _ (up_to-few bytes RightParen (leaf_proofs bytes shares.0) few_leaf (leaf-few shares.0) (length bytes) v.1) (λ ls p5.
      p5.0)))))

  pub read_certificate-few : (start : ℕ) → IfOk (read_certificate bytes start) (λ o. IfSome o (λ c. few_steps (length bytes) c.0 ≡ true))
  read_certificate-few start = by_open (next_open start (drop start bytes))
    where
      by_open : (o : Option ℕ) → IfOk (item_at (certificate_at bytes) o) (λ o. IfSome o (λ c. few_steps (length bytes) c.0 ≡ true))
      by_open None = tt
      by_open (Some place) = then-ok _ _ (λ c. few_steps (length bytes) c.0 ≡ true) _ (certificate_at-few place) (λ c p. p)
