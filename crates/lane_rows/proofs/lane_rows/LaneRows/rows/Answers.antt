use Rattle.lane_rows.proofs.Words.{rules}
use Rattle.lane_rows.proofs.Views.{count_is}
use Rattle.lane_rows.proofs.lane_rows.LaneRows.rows.Goals as goal

pub returns : goal.returns
returns c = let e = count_is c.self.inside.unknowns c.self.inside.rows.items c.self.inside.scale c.self.inside.most _ c.self.view_is in search (rules, e)
