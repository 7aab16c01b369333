-- When a source is called.
use Rattle.std.specs.Prelude.{◌≡◌, ◌⊎◌, ℕ, zero, suc, ◌+◌, ◌<◌, Result, Err}
use Rattle.pip_outside.specs.declared.window.FillRefusal.{FillRefusal}
use Rattle.pip_outside.specs.declared.window.FillRefusal.TheVariants as refusal

-- it is called once, or not at all where memory is refused
abbrev pub CallsOnce : {S : Type 0} → (S → S → Type 0) → S → S → Result ℕ FillRefusal → Type 0
CallsOnce Calls old new (Err refusal.WantOfMemory) = new ≡ old
CallsOnce Calls old new r = Calls old new

module _ {S : Type 0} (Calls : S → S → Type 0) (taken : S → ℕ) where
  -- so many calls, each of which takes a byte, lead from a state to another
  abbrev pub TakesIn : ℕ → S → S → Type 0
  TakesIn zero old new = new ≡ old
  TakesIn (suc k) old new = (mid : S) × TakesIn k old mid × Calls mid new × (taken mid < taken new)

  -- some number of such calls
  pub record Takes (old new : S) : Type 0 where
    pub count : ℕ
    pub led : TakesIn count old new

  -- Each call but the last takes a byte: the source is not asked again at the end of its bytes.
  pub record AsksOn (old new : S) : Type 0 where
    pub last : S
    pub led : Takes old last
    pub then : (new ≡ last) ⊎ Calls last new

  -- It is not called, or its last call, behind others that each take a byte, comes where fewer than n bytes are taken,
  -- these among them that were held before.
  abbrev pub CallsWithin : (old new : S) (held n : ℕ) → Type 0
  CallsWithin old new held n =
      (new ≡ old) ⊎ ((last : S) × Takes old last × Calls last new × (held + taken last < taken old + n))
