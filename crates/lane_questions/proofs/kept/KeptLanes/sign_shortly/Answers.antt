use Rattle.lane_questions.proofs.Words.{rules, arith, sym, subst, ◌≡◌, [], ◌∷◌, ◌++◌, true, false, ℤ, List, common_steps, opposite, Done, counted_on, has_point, stop_fault, IsQuestion}
use Rattle.lane_questions.proofs.FormLanes.{within_more}
use Rattle.lane_questions.proofs.SignsByPoints.{opposite_question, question_fits, nowhere_below, refused_below, everywhere_below, of_both_signs, refused_above}
use Rattle.lane_questions.proofs.kept.KeptLanes.sign_shortly.Goals as goal

pub ask_readable-requires-clause-within : goal.ask_readable-requires-clause-within
ask_readable-requires-clause-within c = within_more c.args.forms.now.norm c.max.result c.as_slice.result.now (omega (arith, c.max.ensures, c.norm.ensures.value)) c.as_slice.ensures.within

pub ask_readable-requires-clause-form : goal.ask_readable-requires-clause-form
ask_readable-requires-clause-form c = record {
  lanes = c.opposite-below.ensures.within.lanes;
  norm = omega (arith, c.max.ensures, c.in-Some.ensures.value, c.opposite-below.ensures.within.norm);
}

pub ask_readable-requires-2-clause-within : goal.ask_readable-requires-2-clause-within
ask_readable-requires-2-clause-within c = within_more c.args.forms.now.norm c.max.result c.as_slice.result.now (omega (arith, c.max.ensures, c.norm.ensures.value)) c.as_slice.ensures.within

pub ask_readable-requires-2-clause-form : goal.ask_readable-requires-2-clause-form
ask_readable-requires-2-clause-form c = record { lanes = c.in-Some.ensures.lanes; norm = omega (arith, c.max.ensures, c.in-Some.ensures.value) }

pub returns-in_err-ask_readable-clause-gives : goal.returns-in_err-ask_readable-clause-gives
returns-in_err-ask_readable-clause-gives c = λ n K form is.
    let all = c.as_slice.result.now in
    let one = c.args.form in
    let v = c.args.self.now in
    let asked = subst (λ (forms : List (List ℤ)). IsQuestion n K form forms one v) (sym c.as_slice.ensures.value) is in
    let fit = question_fits n K form all one v asked c.in-Some.ensures.lanes in
    let below = opposite_question n K form all one c.opposite-below.result v asked (c.opposite-below.ensures.value form is.narrow.some is.form) in
    let told = c.in_err-ask_readable.ensures.gives n K (opposite form) below in
    let refused = refused_below n K form c.args.work.now fit c.ask_readable.new.work (stop_fault c.in_err-ask_readable.field-0.0) told.agrees in
    record { agrees = grind (arith, common_steps, refused); counted = told.counted }

pub returns-then-not-branch-clause-gives : goal.returns-then-not-branch-clause-gives
returns-then-not-branch-clause-gives c = λ n K form is.
    let all = c.as_slice.result.now in
    let one = c.args.form in
    let v = c.args.self.now in
    let asked = subst (λ (forms : List (List ℤ)). IsQuestion n K form forms one v) (sym c.as_slice.ensures.value) is in
    let fit = question_fits n K form all one v asked c.in-Some.ensures.lanes in
    let below = opposite_question n K form all one c.opposite-below.result v asked (c.opposite-below.ensures.value form is.narrow.some is.form) in
    let told = c.ask_readable.ensures.gives n K (opposite form) below in
    record { agrees = nowhere_below n K form c.args.work.now fit c.ask_readable.new.work (search (rules, told)); counted = told.counted }

pub returns-in_err-ask_readable-2-clause-gives : goal.returns-in_err-ask_readable-2-clause-gives
returns-in_err-ask_readable-2-clause-gives c = λ n K form is.
    let all = c.as_slice.result.now in
    let one = c.args.form in
    let v = c.args.self.now in
    let asked = subst (λ (forms : List (List ℤ)). IsQuestion n K form forms one v) (sym c.as_slice.ensures.value) is in
    let fit = question_fits n K form all one v asked c.in-Some.ensures.lanes in
    let below = opposite_question n K form all one c.opposite-below.result v asked (c.opposite-below.ensures.value form is.narrow.some is.form) in
    let first = c.ask_readable.ensures.gives n K (opposite form) below in
    let some : has_point n (K ++ opposite form ∷ []) c.args.work.now ≡ Done true c.ask_readable.new.work = search (rules, first) in
    let told = c.in_err-ask_readable-2.ensures.gives n K form asked in
    let refused = refused_above n K form c.args.work.now fit c.ask_readable.new.work some c.ask_readable-2.new.work (stop_fault c.in_err-ask_readable-2.field-0.0) told.agrees in
    record { agrees = grind (arith, common_steps, refused); counted = counted_on c.args.work.now c.ask_readable.new.work c.ask_readable-2.new.work first.counted told.counted }

pub returns-then-not-branch-2-clause-gives : goal.returns-then-not-branch-2-clause-gives
returns-then-not-branch-2-clause-gives c = λ n K form is.
    let all = c.as_slice.result.now in
    let one = c.args.form in
    let v = c.args.self.now in
    let asked = subst (λ (forms : List (List ℤ)). IsQuestion n K form forms one v) (sym c.as_slice.ensures.value) is in
    let fit = question_fits n K form all one v asked c.in-Some.ensures.lanes in
    let below = opposite_question n K form all one c.opposite-below.result v asked (c.opposite-below.ensures.value form is.narrow.some is.form) in
    let first = c.ask_readable.ensures.gives n K (opposite form) below in
    let told = c.ask_readable-2.ensures.gives n K form asked in
    let none : has_point n (K ++ form ∷ []) c.ask_readable.new.work ≡ Done false c.ask_readable-2.new.work = search (rules, told) in
    record {
      agrees = everywhere_below n K form c.args.work.now fit c.ask_readable.new.work (search (rules, first)) c.ask_readable-2.new.work none;
      counted = counted_on c.args.work.now c.ask_readable.new.work c.ask_readable-2.new.work first.counted told.counted;
    }

pub returns-clause-gives : goal.returns-clause-gives
returns-clause-gives c = λ n K form is.
    let all = c.as_slice.result.now in
    let one = c.args.form in
    let v = c.args.self.now in
    let asked = subst (λ (forms : List (List ℤ)). IsQuestion n K form forms one v) (sym c.as_slice.ensures.value) is in
    let fit = question_fits n K form all one v asked c.in-Some.ensures.lanes in
    let below = opposite_question n K form all one c.opposite-below.result v asked (c.opposite-below.ensures.value form is.narrow.some is.form) in
    let first = c.ask_readable.ensures.gives n K (opposite form) below in
    let told = c.ask_readable-2.ensures.gives n K form asked in
    let found : has_point n (K ++ form ∷ []) c.ask_readable.new.work ≡ Done true c.ask_readable-2.new.work = search (rules, told) in
    record {
      agrees = of_both_signs n K form c.args.work.now fit c.ask_readable.new.work (search (rules, first)) c.ask_readable-2.new.work found;
      counted = counted_on c.args.work.now c.ask_readable.new.work c.ask_readable-2.new.work first.counted told.counted;
    }
