use Rattle.lanes.proofs.Words.{rules, arith, get_or, ◌≡◌, ◌∙◌, ◌+ℤ◌, ◌*ℤ◌, ◌<◌, ◌^◌, ap, sym, subst, pos, unsigned_abs, ℤ, to_z, of_z, w32, entry}
use Rattle.lanes.proofs.Sums.{sum_all, sum_narrow, sum_next, sum_none}
use Rattle.lanes.proofs.rows.sum_products.Goals as goal

pub add_product-sum-requires-clause-all : goal.add_product-sum-requires-clause-all
add_product-sum-requires-clause-all c =
    let x : to_z w32 (of_z w32 (get_or c.args.xs.now c.loop-k.k (pos 0))) ≡ entry c.args.xs.now c.loop-k.k = search rules in
    let y : to_z w32 (of_z w32 (get_or c.args.ys.now c.loop-k.k (pos 0))) ≡ entry c.args.ys.now c.loop-k.k = search rules in
    subst (λ (z : ℤ). unsigned_abs (to_z w32 c.loop-k.sum-bits +ℤ z *ℤ to_z w32 (of_z w32 (get_or c.args.ys.now c.loop-k.k (pos 0)))) < 2 ^ 31) (sym x)
    (subst (λ (z : ℤ). unsigned_abs (to_z w32 c.loop-k.sum-bits +ℤ entry c.args.xs.now c.loop-k.k *ℤ z) < 2 ^ 31) (sym y)
    (sum_narrow c.args.xs.now c.args.ys.now c.loop-k.k (to_z w32 c.loop-k.sum-bits) c.requires.long (omega arith) c.loop-k.invariant c.requires.summable))

pub loop-k-init : goal.loop-k-init
loop-k-init c = sum_none c.args.xs.now c.args.ys.now

pub loop-k-preserved : goal.loop-k-preserved
loop-k-preserved c =
    let x : to_z w32 (of_z w32 (get_or c.args.xs.now c.loop-k.k (pos 0))) ≡ entry c.args.xs.now c.loop-k.k = search rules in
    let y : to_z w32 (of_z w32 (get_or c.args.ys.now c.loop-k.k (pos 0))) ≡ entry c.args.ys.now c.loop-k.k = search rules in
    let sum : to_z w32 (of_z w32 c.add_product-sum.result) ≡ c.add_product-sum.result = search rules in
    sum ∙ c.add_product-sum.ensures
    ∙ ap (λ (z : ℤ). to_z w32 c.loop-k.sum-bits +ℤ z *ℤ to_z w32 (of_z w32 (get_or c.args.ys.now c.loop-k.k (pos 0)))) x
    ∙ ap (λ (z : ℤ). to_z w32 c.loop-k.sum-bits +ℤ entry c.args.xs.now c.loop-k.k *ℤ z) y
    ∙ sum_next c.args.xs.now c.args.ys.now c.loop-k.k (to_z w32 c.loop-k.sum-bits) c.requires.long (omega arith) c.loop-k.invariant

pub returns : goal.returns
returns c = c.loop-k.invariant ∙ sum_all c.args.xs.now c.args.ys.now c.loop-k.k (omega (arith, c.requires.long))
