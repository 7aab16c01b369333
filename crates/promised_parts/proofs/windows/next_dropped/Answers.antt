use Rattle.promised_parts.proofs.windows.next_dropped.Goals as goal

pub returns : goal.returns
returns g c = c.next_problem_in.ensures.window
