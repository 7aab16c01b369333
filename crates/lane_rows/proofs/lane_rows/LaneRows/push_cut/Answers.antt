use Rattle.lane_rows.proofs.Words.{rules, arith, ◌≡◌, ◌<◌, ◌∙◌, ◌++◌, ap, sym, subst, nat_lt, ℤ, [], ◌∷◌, length, to_z, of_z, get_or_default, w32, entry, constant_cut, left_of, IsLaned}
use Rattle.lane_rows.proofs.CutLanes.{cut_laned, laned_more, row_cut, table_more}
use Rattle.lane_rows.proofs.Views.{count_is, row_here}
use Rattle.lane_rows.proofs.lane_rows.LaneRows.push_cut.Goals as goal

pub index-requires : goal.index-requires
index-requires c = let e = count_is c.self.inside.unknowns c.self.inside.rows.items c.self.inside.scale c.self.inside.most _ c.self.view_is in search (rules, e)

pub invariant_of-self-2 : goal.invariant_of-self-2
invariant_of-self-2 c =
    let e = count_is c.self.inside.unknowns c.self.inside.rows.items c.self.inside.scale c.self.inside.most _ c.self.view_is in
    let inside : c.args.i < length c.self.inside.rows.items = omega (arith, e, c.requires) in
    let scale : to_z w32 (of_z w32 c.self.inside.scale) ≡ c.self.inside.scale = search rules in
    let made : c.push.new.self.items ≡ c.self.inside.rows.items ++ c.left-cut.result ∷ [] = search (rules, c.in_ok-push.ensures.items) in
    let old : IsLaned c.self.inside.unknowns c.self.inside.most c.index.result.now = subst (IsLaned c.self.inside.unknowns c.self.inside.most) (sym c.index.ensures) (c.self.invariant.each c.args.i c.index.result.now inside) in
    laned_more c.self.inside.unknowns c.self.inside.rows.items c.self.inside.at c.self.inside.scale c.self.inside.most c.self.invariant c.push.new.self.items c.left-cut.result made
    (cut_laned c.self.inside.unknowns c.self.inside.scale c.index.result.now c.left-cut.result c.self.inside.most c.self.invariant.positive c.self.invariant.few old c.left-cut.ensures.lanes
    (λ k lt. c.left-cut.ensures.value k lt ∙ ap (λ (l : ℤ). left_of l (nat_lt 0 k) (entry c.index.result.now k)) scale) c.self.invariant.common)

pub returns-clause-ok : goal.returns-clause-ok
returns-clause-ok c =
    let e = count_is c.self.inside.unknowns c.self.inside.rows.items c.self.inside.scale c.self.inside.most _ c.self.view_is in
    let inside : c.args.i < length c.self.inside.rows.items = omega (arith, e, c.requires) in
    let made : c.push.new.self.items ≡ c.self.inside.rows.items ++ c.left-cut.result ∷ [] = search (rules, c.in_ok-push.ensures.items) in
    let old : IsLaned c.self.inside.unknowns c.self.inside.most c.index.result.now = subst (IsLaned c.self.inside.unknowns c.self.inside.most) (sym c.index.ensures) (c.self.invariant.each c.args.i c.index.result.now inside) in
    table_more c.self.inside.unknowns c.self.inside.rows.items c.self.inside.at c.self.inside.scale c.self.inside.most c.self.invariant c.push.new.self.items c.left-cut.result made _ _ c.self.view_is
    (row_cut c.self.inside.unknowns c.self.inside.scale c.index.result.now c.left-cut.result c.self.inside.most c.self.invariant.positive c.self.invariant.few old c.left-cut.ensures.lanes
    (λ k lt. c.left-cut.ensures.value k lt ∙ ap (λ (l : ℤ). left_of l (nat_lt 0 k) (entry c.index.result.now k)) (search rules))
    ∙ ap constant_cut (row_here c.self.inside.unknowns c.self.inside.rows.items c.self.inside.scale c.self.inside.most _ c.self.view_is c.args.i c.index.result.now c.requires (c.index.ensures ∙ get_or_default c.self.inside.rows.items c.args.i c.index.result.now [] inside)))
