-- The kept rows in front and behind.
use Rattle.tableau.proofs.Words.{subst, ℕ, ℤ, List, length, map, take, drop, All, All-take, All-drop, get_or-map, length-map, Row, IsRow, IsReduced, IsPlace, IsKnown, IsPlain, IsFlat, AreKept, row_kept, Kept}

-- a fact of each row
all_kept : {X : Type 0} (P : Row → Type 0) (f : X → Row) (xs : List X) → All P (map f xs) → All (λ x. P (f x)) xs
all_kept P f xs h = λ k d lt. subst P (get_or-map f xs k d (f d) lt) (h k (f d) (simp length-map lt))

pub kept_front : (n w : ℕ) (zs : List ℤ) (ks : List Kept) (i : ℕ) → AreKept n w zs ks → AreKept n w zs (take i ks)
kept_front n w zs ks i h = record {
  places = All-take (IsPlace n w (length zs)) i ks h.places;
  rows = All-take (λ k. IsRow n w (row_kept n w zs k)) i ks h.rows;
  reduced = All-take (λ k. IsReduced (row_kept n w zs k)) i ks h.reduced;
  short = All-take (IsKnown n w zs) i ks h.short;
  plain = All-take (IsPlain n w zs) i ks h.plain;
}

pub kept_behind : (n w : ℕ) (zs : List ℤ) (ks : List Kept) (i : ℕ) → AreKept n w zs ks → AreKept n w zs (drop i ks)
kept_behind n w zs ks i h = record {
  places = All-drop (IsPlace n w (length zs)) i ks h.places;
  rows = All-drop (λ k. IsRow n w (row_kept n w zs k)) i ks h.rows;
  reduced = All-drop (λ k. IsReduced (row_kept n w zs k)) i ks h.reduced;
  short = All-drop (IsKnown n w zs) i ks h.short;
  plain = All-drop (IsPlain n w zs) i ks h.plain;
}

pub kept_flat : (n w : ℕ) (zs : List ℤ) (ks : List Kept) → IsFlat n w zs ks → AreKept n w zs ks
kept_flat n w zs ks h = record {
  places = h.places;
  rows = all_kept (IsRow n w) (row_kept n w zs) ks h.rows;
  reduced = all_kept IsReduced (row_kept n w zs) ks h.reduced;
  short = h.short;
  plain = h.plain;
}
