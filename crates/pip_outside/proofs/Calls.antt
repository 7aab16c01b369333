-- Calls of a source one after the other.
use Rattle.std.proofs.Common.{◌≡◌, refl, sym, subst, ℕ, zero, suc, ◌<◌, inl, inr}
use Rattle.std.specs.Prelude.{◌⊎◌}
use Rattle.pip_outside.specs.Calls.{TakesIn, Takes, AsksOn}

module _ {S : Type 0} (Calls : S → S → Type 0) (taken : S → ℕ) where
  pub takes-none : (s : S) → Takes Calls taken s s
  takes-none s = record { count = zero; led = refl }

  -- one call more
  pub takes-more : (s t u : S) → Takes Calls taken s t → (u ≡ t) ⊎ Calls t u → taken t < taken u → Takes Calls taken s u
  takes-more s t u h (inl same) some = subst (Takes Calls taken s) (sym same) h
  takes-more s t u h (inr called) some = record { count = suc h.count; led = (t, h.led, called, some) }

  takes-on : (k : ℕ) (s t u : S) → Takes Calls taken s t → TakesIn Calls taken k t u → Takes Calls taken s u
  takes-on zero s t u h g = subst (Takes Calls taken s) (sym g) h
  takes-on (suc k) s t u h g =
      let r = takes-on k s t g.0 h g.1 in
      record { count = suc r.count; led = (g.0, r.led, g.2, g.3) }

  -- calls after calls
  pub takes-then : (s t u : S) → Takes Calls taken s t → Takes Calls taken t u → Takes Calls taken s u
  takes-then s t u h g = takes-on g.count s t u h g.led

  pub asks-none : (s t : S) → Takes Calls taken s t → AsksOn Calls taken s t
  asks-none s t h = record { last = t; led = h; then = inl refl }

  pub asks-once : (s t u : S) → Takes Calls taken s t → (u ≡ t) ⊎ Calls t u → AsksOn Calls taken s u
  asks-once s t u h c = record { last = t; led = h; then = c }

  pub asks-then : (s t u : S) → Takes Calls taken s t → AsksOn Calls taken t u → AsksOn Calls taken s u
  asks-then s t u h g = record { last = g.last; led = takes-then s t g.last h g.led; then = g.then }
