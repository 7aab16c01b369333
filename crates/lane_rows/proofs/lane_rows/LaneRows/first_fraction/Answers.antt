use Rattle.lane_rows.proofs.Words.{rules}
use Rattle.lane_rows.proofs.Fractions.{fraction_all}
use Rattle.lane_rows.proofs.lane_rows.LaneRows.first_fraction.Goals as goal

pub returns : goal.returns
returns c = fraction_all c.self.inside.unknowns c.self.inside.rows.items c.self.inside.scale c.self.inside.most _ c.self.view_is c.self.inside.at c.self.invariant _ (search (rules, c.first_left.ensures.some)) (search (rules, c.first_left.ensures.none))
