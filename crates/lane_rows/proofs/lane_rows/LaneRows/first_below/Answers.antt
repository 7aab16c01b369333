use Rattle.lane_rows.proofs.Signs.{before_first, first_row, none_below}
use Rattle.lane_rows.proofs.lane_rows.LaneRows.first_below.Goals as goal

pub returns-in_default-clause-none : goal.returns-in_default-clause-none
returns-in_default-clause-none c = none_below c.self.inside.unknowns c.self.inside.rows.items c.self.inside.scale c.self.inside.most _ c.self.view_is c.self.inside.at c.self.invariant c.in_default.ensures.none

pub returns-clause-below : goal.returns-clause-below
returns-clause-below c = first_row c.self.inside.unknowns c.self.inside.rows.items c.self.inside.scale c.self.inside.most _ c.self.view_is c.self.inside.at c.self.invariant c.in-Some.lane c.in-Some.ensures.some

pub returns-clause-before : goal.returns-clause-before
returns-clause-before c = before_first c.self.inside.unknowns c.self.inside.rows.items c.self.inside.scale c.self.inside.most _ c.self.view_is c.self.inside.at c.self.invariant c.in-Some.lane c.in-Some.ensures.some
