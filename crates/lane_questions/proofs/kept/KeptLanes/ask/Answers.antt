use Rattle.lane_questions.proofs.kept.KeptLanes.ask.Goals as goal

pub returns-in-Err-Refused-clause-gives : goal.returns-in-Err-Refused-clause-gives
returns-in-Err-Refused-clause-gives c = λ n K form is.
    let told = c.in-Err-Refused.ensures.gives n K form is in
    record { agrees = rw c.in-Err-Refused.field-0-is at told.agrees; counted = told.counted }
