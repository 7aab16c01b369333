use Rattle.lane_questions.proofs.kept.KeptLanes.has_point.Goals as goal

pub returns-in-Err-Refused-clause-gives : goal.returns-in-Err-Refused-clause-gives
returns-in-Err-Refused-clause-gives c = λ n K some ended forms.
    let told = c.in-Err-Refused.ensures.gives n K some ended forms in
    record { agrees = rw c.in-Err-Refused.field-0-is at told.agrees; counted = told.counted }
