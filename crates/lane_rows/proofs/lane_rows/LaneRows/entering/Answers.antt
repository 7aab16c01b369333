use Rattle.lane_rows.proofs.Words.{rules, ◌∙◌}
use Rattle.lane_rows.proofs.Views.{entered, entered_candidate}
use Rattle.lane_rows.proofs.lane_rows.LaneRows.entering.Goals as goal

pub returns-clause-value : goal.returns-clause-value
returns-clause-value c = search (rules, c.entering_in.ensures.value) ∙ entered c.self.inside.unknowns c.self.inside.rows.items c.self.inside.scale c.self.inside.most _ c.self.view_is c.self.inside.at c.self.invariant c.args.p

pub returns-clause-candidate : goal.returns-clause-candidate
returns-clause-candidate c = entered_candidate c.self.inside.unknowns c.self.inside.rows.items c.self.inside.scale c.self.inside.most _ c.self.view_is c.self.inside.at c.self.invariant c.args.p _ c.entering_in.ensures.candidate
