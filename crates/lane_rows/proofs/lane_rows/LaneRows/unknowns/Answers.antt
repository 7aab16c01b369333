use Rattle.lane_rows.proofs.Words.{arith}
use Rattle.lane_rows.proofs.Views.{count_is, columns_are}
use Rattle.lane_rows.proofs.lane_rows.LaneRows.unknowns.Goals as goal

pub returns-clause-rows : goal.returns-clause-rows
returns-clause-rows c = let e = count_is c.self.inside.unknowns c.self.inside.rows.items c.self.inside.scale c.self.inside.most _ c.self.view_is in let f = columns_are c.self.inside.unknowns c.self.inside.rows.items c.self.inside.scale c.self.inside.most _ c.self.view_is in omega (arith, e, f, c.self.invariant.enough)
