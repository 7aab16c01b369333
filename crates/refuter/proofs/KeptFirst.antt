-- Kept forms that are the first of known ones.
use Rattle.refuter.proofs.Words.{◌≡◌, ◌∙◌, ap, sym, subst, ℕ, ◌≤◌, false, ℤ, List, length, map, take, arith, OnOk, length-take, take-take, narrow_to, KeptRun, IsRunOf, KeepsNone, AreFirst, AreFirstWithin, Result, Ok, Err}

-- those of one list are those of another that begins with as many of the same
pub first-same : (k : KeptRun) (old now : List (List ℤ)) (n : ℕ) → AreFirst k old → take n now ≡ take n old → AreFirstWithin k now n
first-same k old now n h e = λ within.
    let least : length (take n now) ≡ length (take n old) = ap length e in
    let long : k.count ≤ length now = omega (arith, within, h.few, least, length-take n now, length-take n old) in
    let same : take k.count now ≡ take k.count old = sym (take-take k.count n now within) ∙ ap (take k.count) e ∙ take-take k.count n old within in
    record { few = long; run = subst (λ (X : List (List ℤ)). IsRunOf (map (narrow_to k.width) X) k) (sym same) h.run }

pub none-first : (k : KeptRun) (known : List (List ℤ)) → KeepsNone k → AreFirst k known
none-first k known is = record {
  few = omega (arith, is.count);
  run = record {
    context = rw is.count tt;
    remembered = λ h. let unknown : k.is_known ≡ false = is.unknown in absurd cc;
  };
}

pub on_ok : {T E : Type 0} (r : Result T E) (Q : Type 0) → Q → OnOk r Q
on_ok (Ok x) Q h = h
on_ok (Err e) Q h = tt
