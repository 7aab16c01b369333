use Rattle.tableau_row.proofs.Words.{refl, sym, ◌∙◌, to_z-of_z}
use Rattle.std.proofs.Common.{true≢false}
use Rattle.tableau_row.proofs.elimination.exact_difference.Goals as goal

pub unreachable-requires : goal.unreachable-requires
unreachable-requires c =
    let a = c.ranges.a in
    let x = c.ranges.x in
    let b = c.ranges.b in
    let y = c.ranges.y in
    let told = simp to_z-of_z at c.in-Err.ensures.listed refl in
    true≢false (sym c.requires ∙ told)
