use Rattle.short_tableau.proofs.Words.{◌∙◌, ap, neg_ℤ, to_z-of_z, w64}
use Rattle.short_tableau.proofs.Cutting.{opposite_fits, opposite_held, opposite_short}
use Rattle.short_tableau.proofs.cuts.ceil_mod.Goals as goal

pub overflow_sub-a : goal.overflow_sub-a
overflow_sub-a c = opposite_fits c.args.a c.requires.short

pub floor_mod-requires : goal.floor_mod-requires
floor_mod-requires c = rw (to_z-of_z w64 c.args.d c.ranges.d) c.requires.divisor

pub overflow_sub-result : goal.overflow_sub-result
overflow_sub-result c = opposite_fits c.floor_mod.result c.floor_mod.ensures.short

pub returns-clause-value : goal.returns-clause-value
returns-clause-value c =
    let left = rw (opposite_held c.args.a c.requires.short, to_z-of_z w64 c.args.d c.ranges.d) at c.floor_mod.ensures.value in
    opposite_held c.floor_mod.result c.floor_mod.ensures.short ∙ ap neg_ℤ left

pub returns-clause-short : goal.returns-clause-short
returns-clause-short c = rw (opposite_held c.floor_mod.result c.floor_mod.ensures.short) (opposite_short c.floor_mod.result c.floor_mod.ensures.short)
