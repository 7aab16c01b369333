use Rattle.lane_rows.proofs.Views.{scaled_view}
use Rattle.lane_rows.proofs.lane_rows.LaneRows.scale.Goals as goal

pub returns-clause-rows : goal.returns-clause-rows
returns-clause-rows c = scaled_view c.self.inside.unknowns c.self.inside.rows.items c.self.inside.scale c.self.inside.most _ c.self.view_is c.self.inside.at c.self.invariant
