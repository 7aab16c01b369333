use Rattle.lane_rows.proofs.Words.{rules, arith, refl, get_or, ◌≡◌, ◌∙◌, ◌+◌, ◌<◌, ◌^◌, ◌*ℤ◌, ap, sym, subst, unsigned_abs, ℤ, [], to_z, of_z, get_or_default, w32, entry}
use Rattle.lane_rows.proofs.ReadLanes.{ReadTo, addable, constant_small, read_begun, read_end, read_none, read_step}
use Rattle.lane_rows.proofs.reading.combined.Goals as goal
use Rattle.lane_rows.proofs.reading.combined.Goals.{then-coefficient-ne0, else-coefficient-ne0}

pub product-requires : goal.product-requires
product-requires c =
    let b : to_z w32 (of_z w32 c.args.l) ≡ c.args.l = search rules in
    subst (λ (z : ℤ). unsigned_abs (z *ℤ to_z w32 (of_z w32 c.args.l)) < 2 ^ 31) (sym (search rules))
    (subst (λ (z : ℤ). unsigned_abs (entry c.args.form 0 *ℤ z) < 2 ^ 31) (sym b) (constant_small c.args.n c.args.rows.now c.args.l c.args.form c.requires))

pub unit-sum-requires-clause-narrow : goal.unit-sum-requires-clause-narrow
unit-sum-requires-clause-narrow c =
    let a : to_z w32 (of_z w32 c.get.result) ≡ entry c.args.form 0 = search rules in
    let b : to_z w32 (of_z w32 c.args.l) ≡ c.args.l = search rules in
    let whole : to_z w32 (of_z w32 c.product.result) ≡ c.product.result = search rules in
    subst (λ (z : ℤ). unsigned_abs z < 2 ^ 31)
    (sym (whole ∙ c.product.ensures ∙ ap (λ (z : ℤ). z *ℤ to_z w32 (of_z w32 c.args.l)) a ∙ ap (λ (z : ℤ). entry c.args.form 0 *ℤ z) b))
    (constant_small c.args.n c.args.rows.now c.args.l c.args.form c.requires)

pub plus_times-sum-requires : goal.plus_times-sum-requires
plus_times-sum-requires c =
    let b : to_z w32 (of_z w32 c.args.l) ≡ c.args.l = search rules in
    let f : to_z w32 (of_z w32 c.get-coefficient.result) ≡ entry c.args.form (c.loop-k.k + 1) = search rules in
    addable c.args.n c.args.rows.now c.args.l c.args.form c.loop-k.sum c.loop-k.k c.requires (subst (λ (z : ℤ). ReadTo c.args.n c.args.rows.now z c.args.form c.loop-k.sum c.loop-k.k) b c.loop-k.invariant) c.loop-k-test.true
    c.index-rows-k.result (to_z w32 (of_z w32 c.get-coefficient.result)) (c.index-rows-k.is ∙ get_or_default c.args.rows.now c.loop-k.k c.index-rows-k.result [] (omega (arith, c.requires.enough))) f

pub loop-k-init : goal.loop-k-init
loop-k-init c =
    let a : to_z w32 (of_z w32 c.get.result) ≡ entry c.args.form 0 = search rules in
    let b : to_z w32 (of_z w32 c.args.l) ≡ c.args.l = search rules in
    let whole : to_z w32 (of_z w32 c.product.result) ≡ c.product.result = search rules in
    subst (λ (z : ℤ). ReadTo c.args.n c.args.rows.now z c.args.form c.unit-sum.result 0) (sym b)
    (read_begun c.args.n c.args.rows.now c.args.l c.args.form c.unit-sum.result (to_z w32 (of_z w32 c.product.result)) c.unit-sum.ensures.value
    (whole ∙ c.product.ensures ∙ ap (λ (z : ℤ). z *ℤ to_z w32 (of_z w32 c.args.l)) a ∙ ap (λ (z : ℤ). entry c.args.form 0 *ℤ z) b) c.unit-sum.ensures.lanes)

pub loop-k-preserved : goal.loop-k-preserved
loop-k-preserved c =
    let b : to_z w32 (of_z w32 c.args.l) ≡ c.args.l = search rules in
    let f : to_z w32 (of_z w32 c.get-coefficient.result) ≡ entry c.args.form (c.loop-k.k + 1) = search rules in
    let before = subst (λ (z : ℤ). ReadTo c.args.n c.args.rows.now z c.args.form c.loop-k.sum c.loop-k.k) b c.loop-k.invariant in
    elim c.if-coefficient-ne0.branch [
      | then-coefficient-ne0 w ↦ rw w.sum-is (subst (λ (z : ℤ). ReadTo c.args.n c.args.rows.now z c.args.form w.plus_times-sum.result (c.loop-k.k + 1)) (sym b)
          (read_step c.args.n c.args.rows.now c.args.l c.args.form c.loop-k.sum c.loop-k.k c.requires before c.loop-k-test.true
          w.index-rows-k.result (to_z w32 (of_z w32 c.get-coefficient.result)) (w.index-rows-k.is ∙ get_or_default c.args.rows.now c.loop-k.k w.index-rows-k.result [] (omega (arith, c.requires.enough))) f
          w.plus_times-sum.result w.plus_times-sum.ensures.value w.plus_times-sum.ensures.lanes))
      | else-coefficient-ne0 w ↦ rw w.sum-is (subst (λ (z : ℤ). ReadTo c.args.n c.args.rows.now z c.args.form c.loop-k.sum (c.loop-k.k + 1)) (sym b)
          (read_none c.args.n c.args.rows.now c.args.l c.args.form c.loop-k.sum c.loop-k.k c.requires before c.loop-k-test.true
          (get_or c.args.rows.now c.loop-k.k []) (to_z w32 (of_z w32 c.get-coefficient.result)) refl f (search rules)))
    ]

pub returns-clause-value : goal.returns-clause-value
returns-clause-value c = λ k lt.
    let b : to_z w32 (of_z w32 c.args.l) ≡ c.args.l = search rules in
    read_end c.args.n c.args.rows.now c.args.l c.args.form c.loop-k.sum c.loop-k.k k (omega arith) (subst (λ (z : ℤ). ReadTo c.args.n c.args.rows.now z c.args.form c.loop-k.sum c.loop-k.k) b c.loop-k.invariant) lt
