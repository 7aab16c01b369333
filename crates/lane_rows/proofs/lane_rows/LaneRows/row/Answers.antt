use Rattle.lane_rows.proofs.Words.{rules, arith, ◌∙◌, sym, subst, ℕ, [], get_or_default, IsLaned}
use Rattle.lane_rows.proofs.Views.{count_is, columns_are, most_is, row_is}
use Rattle.lane_rows.proofs.lane_rows.LaneRows.row.Goals as goal

pub index-requires : goal.index-requires
index-requires c = let e = count_is c.self.inside.unknowns c.self.inside.rows.items c.self.inside.scale c.self.inside.most _ c.self.view_is in search (rules, e)

pub returns-clause-value : goal.returns-clause-value
returns-clause-value c =
    let e = count_is c.self.inside.unknowns c.self.inside.rows.items c.self.inside.scale c.self.inside.most _ c.self.view_is in
    row_is c.self.inside.unknowns c.self.inside.rows.items c.self.inside.scale c.self.inside.most _ c.self.view_is c.args.i c.index.result.now c.requires (c.index.ensures ∙ get_or_default c.self.inside.rows.items c.args.i c.index.result.now [] (omega (arith, e, c.requires)))

pub returns-clause-laned : goal.returns-clause-laned
returns-clause-laned c =
    let e = count_is c.self.inside.unknowns c.self.inside.rows.items c.self.inside.scale c.self.inside.most _ c.self.view_is in
    let one : IsLaned c.self.inside.unknowns c.self.inside.most c.index.result.now = subst (IsLaned c.self.inside.unknowns c.self.inside.most) (sym c.index.ensures) (c.self.invariant.each c.args.i c.index.result.now (omega (arith, e, c.requires))) in
    subst (λ (n : ℕ). IsLaned n c.args.self.now.most c.index.result.now) (columns_are c.self.inside.unknowns c.self.inside.rows.items c.self.inside.scale c.self.inside.most _ c.self.view_is)
    (subst (λ (m : ℕ). IsLaned c.self.inside.unknowns m c.index.result.now) (most_is c.self.inside.unknowns c.self.inside.rows.items c.self.inside.scale c.self.inside.most _ c.self.view_is) one)
