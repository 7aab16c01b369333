-- A window whose bytes before the first `(` are dropped.
use Rattle.pip_stream.proofs.Words.{◌≡◌, ap, ◌∙◌, ℕ, ◌+◌, arith, true, false, ◌∷◌, length, length-append, take, drop, take-length, take_at, drop_at, drop_all, Some, None, list_all, HeldBytes, is_closed, next_open, next_open-none, DropsClosed}
use Rattle.pip_stream.proofs.Groups.{opened}

pub drops-to_open : (w new : HeldBytes) (place : ℕ) → next_open 0 w.held ≡ Some place → new ≡ record w { held = drop place w.held; base = w.base + place } → DropsClosed w new true
drops-to_open w new place h is =
    let o = opened w.held place h in
    let size : length w.held ≡ length o.before + length (40 ∷ o.tail) = ap length o.is ∙ length-append o.before (40 ∷ o.tail) in
    let front : take place w.held ≡ o.before = ap (take place) o.is ∙ take_at o.before (40 ∷ o.tail) place o.count in
    let behind : drop place w.held ≡ 40 ∷ o.tail = ap (drop place) o.is ∙ drop_at o.before (40 ∷ o.tail) place o.count in
    record {
      count = place;
      few = omega (arith, size, o.count);
      is = is;
      closed = ap (list_all is_closed) front ∙ o.closed;
      open_now = ap (λ (v : HeldBytes). next_open 0 v.held) is ∙ ap (next_open 0) behind;
    }

pub drops-all : (w new : HeldBytes) (n : ℕ) → next_open 0 w.held ≡ None → n ≡ length w.held → new ≡ record w { held = drop n w.held; base = w.base + n } → DropsClosed w new false
drops-all w new n h all is =
    let front : take n w.held ≡ w.held = ap (λ k. take k w.held) all ∙ take-length w.held in
    record {
      count = n;
      few = omega (arith, all);
      is = is;
      closed = ap (list_all is_closed) front ∙ next_open-none 0 w.held h;
      open_now = ap (λ (v : HeldBytes). v.held) is ∙ drop_all n w.held (omega (arith, all));
    }
