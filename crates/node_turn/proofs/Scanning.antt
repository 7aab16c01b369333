-- The scan of a node's rows, from one row to the next.
use Rattle.std.specs.List.{list_all}
use Rattle.pip_model.specs.Numbers.{is_nonneg}
use Rattle.node_turn.proofs.Words.{◌≡◌, refl, sym, ◌∙◌, ap, ℕ, ◌+◌, ◌<◌, ℤ, Option, Some, None, List, [], ◌∷◌, length, drop, zero, suc, pos, true, replicate, IfSome, drop_more, Row, row_at, form_row, Work, Outcome, Done, Refused, Refusal, Node, Setting, Class, Plus, Minus, Unknown, Signs, AllPlus, MinusAt, UnknownBy, keep, go_on, scan, scan_on, scope, class, turn, turn_by, class_of, scanned}
use Rattle.sign_split.specs.declared.classes.Class as Code
use Rattle.sign_split.specs.declared.classes.Class.TheVariants as code

-- a node's scan is that of its context
pub scan-scanned : (S : Setting) (N : Node) → S.class ≡ class → (i : ℕ) (kept : Signs) (rows : List Row) (w : Work) → scan S N i kept rows w ≡ scanned N.context (scope S N) i kept rows w
scan-scanned S N e i kept [] w = refl
scan-scanned S N e i kept (r ∷ rs) w = rw e (by (λ now v. scan-scanned S N e (i + 1) now rs v) (class N.context (scope S N) r.constant w))
  where
    by : ((now : Signs) (v : Work) → scan S N (i + 1) now rs v ≡ scanned N.context (scope S N) (i + 1) now rs v) → (o : Outcome Class)
        → go_on o (λ c. scan_on c i kept (λ now. scan S N (i + 1) now rs)) ≡ go_on o (λ c. scan_on c i kept (λ now. scanned N.context (scope S N) (i + 1) now rs))
    by later (Refused f v) = refl
    by later (Done Plus v) = later kept v
    by later (Done Minus v) = refl
    by later (Done (Unknown c) v) = later (keep kept c) v

-- what is kept after a class that is not below 0
abbrev keep_class : Signs → Class → Signs
keep_class kept Plus = kept
keep_class kept Minus = kept
keep_class kept (Unknown c) = keep kept c

-- behind a row of both signs its condition stays
stays : (d : List ℤ) (c : Class) → keep_class (UnknownBy d) c ≡ UnknownBy d
stays d Plus = refl
stays d Minus = refl
stays d (Unknown c) = refl

module _ (K : List (List ℤ)) (n i : ℕ) (kept : Signs) (rows : List Row) (w v : Work) (h : i < length rows) where
  here : scanned K n i kept (drop i rows) w ≡ go_on (class K n (row_at rows i).constant w) (λ c. scan_on c i kept (λ now. scanned K n (i + 1) now (drop (i + 1) rows)))
  here = rw (drop_more rows i (form_row 0 []) h) refl

  pub scanned_on : (c : Class) → (c ≡ Minus → ⊥) → class K n (row_at rows i).constant w ≡ Done c v → scanned K n i kept (drop i rows) w ≡ scanned K n (i + 1) (keep_class kept c) (drop (i + 1) rows) v
  scanned_on Plus other e = rw (here, e) refl
  scanned_on Minus other e = absurd (other refl)
  scanned_on (Unknown c) other e = rw (here, e) refl

  pub scanned_minus : class K n (row_at rows i).constant w ≡ Done Minus v → scanned K n i kept (drop i rows) w ≡ Done (MinusAt i) v
  scanned_minus e = rw (here, e) refl

  pub scanned_refused : (o : Option Refusal) → IfSome o (λ f. class K n (row_at rows i).constant w ≡ Refused f v) → IfSome o (λ f. scanned K n i kept (drop i rows) w ≡ Refused f v)
  scanned_refused None e = e
  scanned_refused (Some f) e = rw (here, e) refl

pub scanned_behind : (K : List (List ℤ)) (n i : ℕ) (d : List ℤ) (rows : List Row) (w v : Work) → i < length rows → (c : Class) → (c ≡ Minus → ⊥)
    → class K n (row_at rows i).constant w ≡ Done c v → scanned K n i (UnknownBy d) (drop i rows) w ≡ scanned K n (i + 1) (UnknownBy d) (drop (i + 1) rows) v
scanned_behind K n i d rows w v h c other e = scanned_on K n i (UnknownBy d) rows w v h c other e
    ∙ ap (λ (s : Signs). scanned K n (i + 1) s (drop (i + 1) rows) v) (stays d c)

pub not_minus : (c : Code.Class) → (c ≡ code.Minus → ⊥) → class_of c ≡ Minus → ⊥
not_minus code.Plus other e = cc
not_minus code.Minus other e = other refl
not_minus (code.Unknown c) other e = cc

-- the scan from the first row on, where that is the scan from here
pub refused_from : (K : List (List ℤ)) (n i : ℕ) (kept : Signs) (rows : List Row) (w v : Work) → i < length rows → (o : Option Refusal) → IfSome o (λ f. class K n (row_at rows i).constant w ≡ Refused f v)
    → (whole : Outcome Signs) → scanned K n i kept (drop i rows) w ≡ whole → IfSome o (λ f. whole ≡ Refused f v)
refused_from K n i kept rows w v h None e whole same = e
refused_from K n i kept rows w v h (Some f) e whole same = sym same ∙ scanned_refused K n i kept rows w v h (Some f) e

module _ (S : Setting) (N : Node) (e : S.class ≡ class) (w v : Work) where
  -- a turn, after the scan of its rows
  pub turn_on : (s : Signs) → scanned N.context (scope S N) 0 AllPlus N.rows w ≡ Done s v → turn S N w ≡ turn_by S N s v
  turn_on s h = ap (λ o. go_on o (λ signs. turn_by S N signs)) (scan-scanned S N e 0 AllPlus N.rows w ∙ h)

  pub turn_refused : (o : Option Refusal) → IfSome o (λ f. scanned N.context (scope S N) 0 AllPlus N.rows w ≡ Refused f v) → IfSome o (λ f. turn S N w ≡ Refused f v)
  turn_refused None h = h
  turn_refused (Some f) h = ap (λ o. go_on o (λ signs. turn_by S N signs)) (scan-scanned S N e 0 AllPlus N.rows w ∙ h)

-- a form of zeros is nowhere below 0
pub zeros_nonneg : (n : ℕ) → list_all is_nonneg (replicate n (pos 0)) ≡ true
zeros_nonneg zero = refl
zeros_nonneg (suc n) = zeros_nonneg n
