-- What the refusals of items and of an input are not, and how the faults of a run are counted.
use Rattle.item_writing.proofs.Words.{◌≡◌, subst, ◌∙◌, ℕ, refl, sym, Result, Ok, Err, IfErr, IsErrOf, Vec, Global, IsOfInput, IsOfItem, counts-none, counts-as, counts-refused, EndsByFaults}
use Rattle.pip_outside.specs.Faults.{CountsFaults}
use Rattle.item_writing.specs.declared.ending.Ending.{Ending as Refused}
use Rattle.item_writing.specs.declared.ending.Ending.TheVariants as ending

-- a refusal of an item is none of the outside
pub own-not : (e : Refused) → IsOfItem e → (¬ (e ≡ ending.Usage)) × (¬ (e ≡ ending.ReadFault)) × (¬ (e ≡ ending.WriteFault)) × (¬ (e ≡ ending.InputTooLong))
own-not ending.Usage own = absurd own
own-not ending.ReadFault own = absurd own
own-not ending.WriteFault own = absurd own
own-not ending.InputTooLong own = absurd own
own-not e own = (λ p. cc, λ p. cc, λ p. cc, λ p. cc)

pub err-same : {T : Type 0} (x y : Refused) → IsErrOf {T = T} (Err x) y → x ≡ y
err-same x y h = cc

-- a call that failed, and ends the run
pub counts-failed : {F G : Type 0} (a b c : ℕ) → b ≡ a → CountsFaults F b c → F → G → CountsFaults G a c
counts-failed a b c e h f g = counts-as a b c e (λ _. f) (λ _. g) h

pub faults-by : {T : Type 0} (rb ra wb wa : ℕ) (r : Result T Refused) → CountsFaults (IsErrOf r ending.ReadFault) rb ra → CountsFaults (IsErrOf r ending.WriteFault) wb wa → EndsByFaults rb ra wb wa r
faults-by rb ra wb wa r h k = record { read_fault = h.cause; write_fault = k.cause; read_quiet = h.quiet; write_quiet = k.quiet }

-- the input is not read
not_write : (e : Refused) → IsOfInput (Err e) → e ≡ ending.WriteFault → ⊥
not_write e own h = subst (λ x. IsOfInput (Err x)) h own

pub faults-unread : {T : Type 0} (rb ra w : ℕ) (e : Refused) → IsOfInput (Err e) → CountsFaults (IsErrOf {T = Vec ℕ Global} (Err e) ending.ReadFault) rb ra → EndsByFaults {T = T} rb ra w w (Err e)
faults-unread rb ra w e own h = faults-by rb ra w w (Err e) (counts-refused e ending.ReadFault rb rb ra refl h) (counts-none w w (λ k. not_write e own (err-same _ _ k)) refl)

-- items are written
not_read : (r : Result (Unit {0}) Refused) → IfErr r (λ e. ¬ (e ≡ ending.WriteFault) → IsOfItem e) → IsErrOf r ending.ReadFault → ⊥
not_read (Ok u) own h = cc
not_read (Err e) own h = (subst (λ x. ¬ (x ≡ ending.WriteFault) → IsOfItem x) (err-same _ _ h) own) (λ p. cc)

pub faults-items : (rb ra wb wa : ℕ) (r : Result (Unit {0}) Refused) → IfErr r (λ e. ¬ (e ≡ ending.WriteFault) → IsOfItem e) → ra ≡ rb → CountsFaults (IsErrOf r ending.WriteFault) wb wa → EndsByFaults rb ra wb wa r
faults-items rb ra wb wa r own e h = faults-by rb ra wb wa r (counts-none rb ra (not_read r own) e) h

pub err-not_ok : {T E : Type 0} (r : Result T E) (e : E) (x : T) {P : Type 0} → r ≡ Err e → r ≡ Ok x → P
err-not_ok r e x h k = absurd (let both : Err e ≡ Ok x = sym h ∙ k in cc)
