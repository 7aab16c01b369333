-- Bytes that are dropped, and bytes that come: what is told of the input through each step.
use Rattle.pip_stream.proofs.Words.{◌≡◌, refl, sym, ap, ◌∙◌, ℕ, ◌+◌, ◌-◌, arith, List, ◌++◌, length, Bool, true, length-append, length-drop, take, drop, take-add, drop-drop, drop-append-le, take-append-le, list_all-append, Option, Some, None, IfSome, list_all, HeldBytes, is_closed, taken_by, bytes_from, Drops, Skips, Grows, DropsClosed}

abbrev Bytes : Type 0
Bytes = List ℕ

pub if-map : {X : Type 0} (P Q : X → Type 0) (o : Option X) → ((x : X) → P x → Q x) → IfSome o P → IfSome o Q
if-map P Q (Some x) f h = f x h
if-map P Q None f h = tt

pub if-some : {X : Type 0} (P : X → Type 0) (o : Option X) (x : X) → o ≡ Some x → IfSome o P → P x
if-some P o x e h = rw e at h

pub taken-grown : (a b : HeldBytes) (n : ℕ) → Grows a b n → taken_by b ≡ taken_by a + n
taken-grown a b n g =
    let held : length b.held ≡ length a.held + n = ap length g.held ∙ length-append a.held g.piece ∙ ap (λ k. length a.held + k) g.count in
    omega (arith, held, g.base)

-- ---- a step that drops nothing

pub drops-none : (w : HeldBytes) (left : Bytes) (o : Option Bytes) → o ≡ Some left → Drops w left w o 0
drops-none w left o e = record { few = omega arith; base = omega arith; left_now = left; told = e; rest = refl }

-- ---- one step after the other

drops-then : (a b c : HeldBytes) (left : Bytes) (o m : Option Bytes) (n k : ℕ) (d : Drops a left b o n) → Drops b d.left_now c m k → Drops a left c m (n + k)
drops-then a b c left o m n k d e =
    let size : length (bytes_from b d.left_now) ≡ length (bytes_from a left) - n = ap length d.rest ∙ length-drop n (bytes_from a left) in
    record {
      few = omega (arith, size, d.few, e.few);
      base = omega (arith, d.base, e.base);
      left_now = e.left_now;
      told = e.told;
      rest = e.rest ∙ ap (drop k) d.rest ∙ drop-drop k n (bytes_from a left) ∙ ap (λ i. drop i (bytes_from a left)) (omega arith);
    }

pub skips-nothing : (w : HeldBytes) (left : Bytes) → Skips w left w (Some left)
skips-nothing w left = record { count = 0; drops = drops-none w left (Some left) refl; closed = refl }

pub skipped : (a b c : HeldBytes) (left : Bytes) (m l : Option Bytes) (s : Skips a left b m) (k : ℕ) → Drops b s.drops.left_now c l k → list_all is_closed (take k (bytes_from b s.drops.left_now)) ≡ true → Skips a left c l
skipped a b c left m l s k d h =
    let all : take (s.count + k) (bytes_from a left) ≡ take s.count (bytes_from a left) ++ take k (bytes_from b s.drops.left_now) =
    take-add s.count k (bytes_from a left) ∙ ap (λ x. take s.count (bytes_from a left) ++ take k x) (sym s.drops.rest) in
    record {
      count = s.count + k;
      drops = drops-then a b c left m l s.count k s.drops d;
      closed = ap (list_all is_closed) all ∙ list_all-append is_closed (take s.count (bytes_from a left)) (take k (bytes_from b s.drops.left_now)) ∙ rw (s.closed, h) refl;
    }

-- more bytes come, none is dropped
pub skips-more : (a b c : HeldBytes) (left : Bytes) (m l : Option Bytes) (s : Skips a left b m) → Drops b s.drops.left_now c l 0 → Skips a left c l
skips-more a b c left m l s d = skipped a b c left m l s 0 d refl

-- held bytes are dropped among which no item begins
closed-drops : (b c : HeldBytes) (found : Bool) (left : Bytes) (m : Option Bytes) → m ≡ Some left → (d : DropsClosed b c found) → Drops b left c m d.count
closed-drops b c found left m e d = record {
  few = omega (arith, d.few, length-append b.held left);
  base = ap (λ (w : HeldBytes). w.base) d.is;
  left_now = left;
  told = e;
  rest = ap (λ (w : HeldBytes). w.held ++ left) d.is ∙ sym (drop-append-le d.count b.held left d.few);
}

pub skips-closed : (a b c : HeldBytes) (found : Bool) (left : Bytes) (m : Option Bytes) → Skips a left b m → DropsClosed b c found → Skips a left c m
skips-closed a b c found left m h d =
    skipped a b c left m m h d.count (closed-drops b c found h.drops.left_now m h.drops.told d) (ap (list_all is_closed) (take-append-le d.count b.held h.drops.left_now d.few) ∙ d.closed)

-- ---- how many are taken

pub taken-closed : (b c : HeldBytes) (found : Bool) → DropsClosed b c found → taken_by c ≡ taken_by b
taken-closed b c found d =
    let held : length c.held ≡ length b.held - d.count = ap (λ (w : HeldBytes). length w.held) d.is ∙ length-drop d.count b.held in
    let base : c.base ≡ b.base + d.count = ap (λ (w : HeldBytes). w.base) d.is in
    omega (arith, held, base, d.few)

-- ---- the peak does not matter

drops-restart : (old w : HeldBytes) (p : ℕ) (left : Bytes) (m : Option Bytes) (n : ℕ) → Drops (record old { peak = p }) left w m n → Drops old left w m n
drops-restart old w p left m n d = record { few = d.few; base = d.base; left_now = d.left_now; told = d.told; rest = d.rest }

pub skips-restart : (old w : HeldBytes) (p : ℕ) (left : Bytes) (m : Option Bytes) → Skips (record old { peak = p }) left w m → Skips old left w m
skips-restart old w p left m s = record { count = s.count; drops = drops-restart old w p left m s.count s.drops; closed = s.closed }
