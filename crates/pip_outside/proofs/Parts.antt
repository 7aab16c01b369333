-- Fronts of bytes, and bytes that are written in parts.
use Rattle.std.proofs.Common.{◌≡◌, ℕ, ◌+◌, ◌<◌, List, [], ◌++◌, length, take, drop, Option, Some, sym, subst, ap, ◌∙◌, arith, length-append}
use Rattle.std.proofs.lemmas.List.{take-append-drop, drop-drop}
use Rattle.std.proofs.Math.Seq.{take-add, take-append-add}
use Rattle.std.proofs.KnownBytes.{Appends-trans}
use Rattle.std.specs.Prelude.{Result, Ok, Err}
use Rattle.std.specs.Io.KnownBytes.{Appends, Consumes, IsAtEnd}
use Rattle.pip_outside.specs.Bytes.{AppendsFront, WritesAll, WritesBytes}
use Rattle.pip_outside.proofs.Faults.{counts-after}

-- a front of the bytes, and then a front of the rest
pub front_more : (a b c : Option (List ℕ)) (bytes : List ℕ) (at n : ℕ) → Appends a b (take at bytes) → Appends b c (take n (drop at bytes)) → Appends a c (take (at + n) bytes)
front_more a b c bytes at n p q = subst (Appends a c) (sym (take-add at n bytes)) (Appends-trans a b c _ _ p q)

-- bytes, and then a front of more
pub front_after : (a b c : Option (List ℕ)) (xs ys : List ℕ) → Appends a b xs → AppendsFront b c ys → AppendsFront a c (xs ++ ys)
front_after a b c xs ys p q =
    (length xs + q.0, omega (arith, q.1, length-append xs ys), subst (Appends a c) (sym (take-append-add xs ys q.0)) (Appends-trans a b c xs (take q.0 ys) p q.2))

-- bytes, and then a write of more
pub writes_after : {E : Type 0} (a b c : Option (List ℕ)) (xs ys : List ℕ) (r : Result (Unit {0}) E) → Appends a b xs → WritesAll b c r ys → WritesAll a c r (xs ++ ys)
writes_after a b c xs ys (Ok u) p q = Appends-trans a b c xs ys p q
writes_after a b c xs ys (Err e) p q = front_after a b c xs ys p q

module _ {K E : Type 0} (written : K → Option (List ℕ)) (count : K → ℕ) where
  pub writes-then : (a b c : K) (xs ys : List ℕ) (r : Result (Unit {0}) E) (u : Unit {0}) → WritesBytes {E = E} written count a b (Ok u) xs → WritesBytes written count b c r ys → WritesBytes written count a c r (xs ++ ys)
  writes-then a b c xs ys r u h k = record {
    bytes = writes_after (written a) (written b) (written c) xs ys r h.bytes k.bytes;
    faults = counts-after (count a) (count b) (count c) (h.faults.quiet (λ e. cc)) k.faults;
  }

-- a read of n bytes at a place leaves those after them
pub read_at : (at n : ℕ) (bytes buf : List ℕ) → take n buf ≡ take n (drop at bytes) → (n ≡ 0 → 0 < length buf → drop at bytes ≡ [])
    → Consumes (Some (drop at bytes)) (Some (drop (at + n) bytes)) (take n buf) × (n ≡ 0 → 0 < length buf → IsAtEnd (Some (drop (at + n) bytes)))
read_at at n bytes buf front end =
    let rest : drop n (drop at bytes) ≡ drop (at + n) bytes = drop-drop n at bytes in (
      sym (take-append-drop n (drop at bytes)) ∙ ap (λ xs. xs ++ drop n (drop at bytes)) (sym front) ∙ ap (λ xs. take n buf ++ xs) rest,
      λ none room. let same : at + n ≡ at = omega (arith, none) in ap (λ k. drop k bytes) same ∙ end none room,
    )
