-- Facts of a step that asks for more bytes, or drops some, as the loops need them.
use Rattle.pip_stream.proofs.Words.{◌≡◌, sym, ap, subst, ℕ, ◌+◌, ◌≤◌, arith, false, Bool, [], length, length-append, length-drop, nil_from_length, Ok, Err, HeldBytes, most_input_bytes, taken_by, IsMore, DropsClosed, IsOpened, NextRefusal}
use Rattle.pip_stream.specs.declared.refusal.NextRefusal.TheVariants as next
use Rattle.pip_stream.proofs.Dropping.{taken-grown}

-- ---- dropped bytes before a `(`

pub record Fewer (w v : HeldBytes) : Type 0 where
  pub held : length v.held ≤ length w.held
  pub base : w.base ≤ v.base
  pub peak : v.peak ≡ w.peak

pub fewer : (w v : HeldBytes) (found : Bool) → DropsClosed w v found → Fewer w v
fewer w v found d = record {
  held = omega (arith, ap (λ (x : HeldBytes). length x.held) d.is, length-drop d.count w.held);
  base = omega (arith, ap (λ (x : HeldBytes). x.base) d.is);
  peak = ap (λ (x : HeldBytes). x.peak) d.is;
}

-- ---- more bytes behind none

pub record Some_ (v u : HeldBytes) (n : ℕ) : Type 0 where
  pub held : length u.held ≡ length v.held + n
  pub base : u.base ≡ v.base
  pub few : n ≤ 4096
  pub within : taken_by u ≤ most_input_bytes
  pub taken : taken_by u ≡ taken_by v + n
  pub peak_high : (m : ℕ) → v.peak ≤ m → length u.held ≤ m → u.peak ≤ m

pub some_more : (v u : HeldBytes) (n : ℕ) → IsMore v u (Ok n) → Some_ v u n
some_more v u n h =
    let g = h.0 in
    record {
      held = omega (arith, ap length g.held, length-append v.held g.piece, g.count);
      base = g.base;
      few = h.1;
      within = h.2;
      taken = taken-grown v u n g;
      peak_high = λ m low len. omega (arith, g.peak, low, len);
    }

pub err-base : (v u : HeldBytes) (e : NextRefusal) → IsMore v u (Err e) → u.base ≡ v.base
err-base v u next.InputBytes h = h.0.base
err-base v u (next.Read e) h = absurd h
err-base v u e h = ap (λ (x : HeldBytes). x.base) h

pub opened-err : (v u : HeldBytes) (e : NextRefusal) → v.held ≡ [] → taken_by v ≤ most_input_bytes → IsMore v u (Err e) → IsOpened u (Err e)
opened-err v u next.InputBytes none within h =
    let g = h.0 in (omega (arith, ap length g.held, length-append v.held g.piece, g.count, ap length none), h.1)
opened-err v u (next.Read e) none within h = absurd h
opened-err v u e none within h = subst (λ (x : HeldBytes). (x.held ≡ []) × (taken_by x ≤ most_input_bytes)) (sym h) (none, within)

pub opened-end : (v u : HeldBytes) (n : ℕ) → v.held ≡ [] → v.peak ≤ 4096 → IsMore v u (Ok n) → n ≡ 0 → IsOpened u (Ok false)
opened-end v u n none peak h zero =
    let s = some_more v u n h in
    let empty : length u.held ≡ 0 = omega (arith, s.held, ap length none, zero) in
    (nil_from_length u.held empty, record { few = omega (arith, empty); peak = s.peak_high 4096 peak (omega (arith, empty)); within = s.within })
