use Rattle.lane_rows.proofs.Words.{rules, ◌∙◌, ◌*◌, ◌<◌, ◌^◌, sym, subst, ℕ, norm}
use Rattle.lane_rows.proofs.Values.{vertex_summable, value_row}
use Rattle.lane_rows.proofs.Views.{most_is}
use Rattle.lane_rows.proofs.lane_rows.LaneRows.value.Goals as goal

pub dot-requires : goal.dot-requires
dot-requires c =
    vertex_summable c.self.inside.unknowns c.self.inside.rows.items c.self.inside.scale c.self.inside.most c.self.inside.at c.self.invariant c.args.form c.requires.lanes
    (subst (λ (m : ℕ). norm c.args.form * m < 2 ^ 31) (sym (most_is c.self.inside.unknowns c.self.inside.rows.items c.self.inside.scale c.self.inside.most _ c.self.view_is)) c.requires.bound)

pub returns : goal.returns
returns c =
    (search rules) ∙ c.dot.ensures
    ∙ value_row c.self.inside.unknowns c.self.inside.rows.items c.self.inside.scale c.self.inside.most c.self.inside.at c.self.invariant c.args.form c.requires.lanes
    (subst (λ (m : ℕ). norm c.args.form * m < 2 ^ 31) (sym (most_is c.self.inside.unknowns c.self.inside.rows.items c.self.inside.scale c.self.inside.most _ c.self.view_is)) c.requires.bound) _ c.self.view_is
