use Rattle.std.proofs.Common.{◌≡◌, ap, sym, ◌∙◌, ℕ, ◌+◌, ◌-◌, suc, ◌<◌, ◌^◌, ◌/◌, ◌%◌, ℤ, pos, negsuc, arith, of_z, unsigned_abs, IsTrue, nat_eq, bit_and, bit_or, w64}
use Rattle.std.proofs.lemmas.Nat.{and_shr, and_mask, le_or_l, le_or_r}
use mir.Val.{SFits}
use Rattle.std.proofs.lemmas.Bool.{eqb-true}
use Rattle.short_numbers.proofs.pairs.are_narrow.Goals as goal

below : (v : ℕ) → v < 2 ^ 64 → bit_and v 18446744071562067968 ≡ 0 → v < 2 ^ 31
below v h e =
    let none : v / 2 ^ 31 % 2 ^ 33 ≡ 0 = sym (and_shr v 18446744071562067968 31 ∙ and_mask (v / 2 ^ 31) 33) ∙ ap (λ n. n / 2 ^ 31) e in
    omega (arith, none, h)

narrow : (z : ℤ) → SFits w64 z → bit_and ((of_z w64 z + 1073741824) % 18446744073709551616) 18446744071562067968 ≡ 0 → unsigned_abs z < 2 ^ 31
narrow (pos n) f e = omega (arith, f.sfits, below ((n + 1073741824) % 18446744073709551616) (omega arith) e)
narrow (negsuc n) f e = omega (arith, f.sfits, below ((2 ^ 64 - suc n + 1073741824) % 18446744073709551616) (omega arith) e)

none_of : (a b : ℕ) → IsTrue (nat_eq (bit_or a b) 0) → (a ≡ 0) × (b ≡ 0)
none_of a b h =
    let none = eqb-true (bit_or a b) 0 h in
    (omega (arith, none, le_or_l a b), omega (arith, none, le_or_r a b))

pub returns : goal.returns
returns c h =
    let none = none_of _ _ h in
    record { first = narrow c.args.x c.ranges.x none.0; second = narrow c.args.y c.ranges.y none.1 }
