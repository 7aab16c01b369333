use Rattle.run_laws.proofs.EnoughFuel.{problem_turn-less, point_turn-less, problem_run-fuel, point_run-fuel}
use Rattle.headline.proofs.the_run_never_stops_short.Goals as goal

pub returns : goal.returns
returns c = record { problem_turns = problem_turn-less; point_turns = point_turn-less; problem_runs = problem_run-fuel; point_runs = point_run-fuel }
