-- The signs that the scan of rows without parameters gives.
use Rattle.refutation_laws.proofs.Words.{◌≡◌, ℕ, ◌+◌, ◌<◌, List, length, ℤ, true, if◌then◌else◌, is_nonneg, constant, Row, row_at, Node, Class, Plus, Minus, Unknown, Signs, AllPlus, MinusAt, UnknownBy, scan, point_setting, true_or_not, Ensures, ensures-give, ensures-weaken}
use Rattle.std.proofs.Common.{inl, inr}
use Rattle.run_laws.proofs.Logics.{by_value, all_told, Scanned, scan_law}

-- the rows from place i on have been scanned: the first below 0, or none is
abbrev pub IsSigns : List Row → ℕ → Signs → Type 0
IsSigns rows i AllPlus = Unit {0}
IsSigns rows i (MinusAt j) = (k : ℕ) × (j ≡ i + k) × (k < length rows) × ¬ (is_nonneg (constant (row_at rows k).constant) ≡ true)
IsSigns rows i (UnknownBy c) = ⊥

abbrev IsClass : List ℤ → Class → Type 0
IsClass t Plus = Unit {0}
IsClass t Minus = ¬ (is_nonneg (constant t) ≡ true)
IsClass t (Unknown c) = ⊥

module _ (w : ℕ) (N : Node) (rows : List Row) where
  signs_of : (s : Signs) → Scanned by_value (point_setting w) N IsClass AllPlus rows 0 s → IsSigns rows 0 s
  signs_of AllPlus h = tt
  signs_of (MinusAt j) (inr h) = h
  signs_of (UnknownBy c) (inr h) = h.2
  signs_of _ (inl h) = let e = h.0 in cc

  pub scan_signs : Ensures (IsSigns rows 0) (scan (point_setting w) N 0 AllPlus rows)
  scan_signs = ensures-weaken (Scanned by_value (point_setting w) N IsClass AllPlus rows 0) (IsSigns rows 0) (scan (point_setting w) N 0 AllPlus rows) signs_of
      (scan_law by_value (point_setting w) N IsClass rows 0 AllPlus (all_told by_value (point_setting w) N IsClass
      (λ t. ensures-give (IsClass t) (if is_nonneg (constant t) then Plus else Minus) (true_or_not (is_nonneg (constant t)) (λ b. IsClass t (if b then Plus else Minus)) (λ e. tt) (λ e. e))) rows))
