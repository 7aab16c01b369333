use Rattle.refuter.proofs.Words.{rules, arith, ◌≡◌, map, take, drop, narrow_to, common_steps, counted_on, stop_fault, IsRemembered}
use Rattle.refuter.proofs.FurtherForms.{known-row, known-column, known-traced, known-made, known-refused}
use Rattle.refuter.proofs.kept_front.KeptFront.refute_behind.Goals as goal

pub exchange_all-requires-clause-lengths : goal.exchange_all-requires-clause-lengths
exchange_all-requires-clause-lengths c =
    let k = c.self.inside in
    let is : IsRemembered k.width (map (narrow_to k.width) (take k.count c.args.known.now)) k.run = search rules in
    is.replay.places

pub exchange_all-requires-clause-rows : goal.exchange_all-requires-clause-rows
exchange_all-requires-clause-rows c =
    let k = c.self.inside in
    let width : k.width ≡ c.args.self.now.width = search rules in
    let is : IsRemembered k.width (map (narrow_to k.width) (take k.count c.args.known.now)) k.run = search rules in
    let rest : c.in_ok-further.further.now ≡ map (narrow_to k.width) (drop k.count c.args.known.now) = search rules in
    let traced = rw (← width) at c.requires.traced in
    known-row k.width k.count c.args.known.now c.in_ok-further.further.now k.run is rest c.args.trace.now c.args.work.now traced

pub exchange_all-requires-clause-columns : goal.exchange_all-requires-clause-columns
exchange_all-requires-clause-columns c =
    let k = c.self.inside in
    let width : k.width ≡ c.args.self.now.width = search rules in
    let is : IsRemembered k.width (map (narrow_to k.width) (take k.count c.args.known.now)) k.run = search rules in
    let rest : c.in_ok-further.further.now ≡ map (narrow_to k.width) (drop k.count c.args.known.now) = search rules in
    let traced = rw (← width) at c.requires.traced in
    known-column k.width k.count c.args.known.now c.in_ok-further.further.now k.run is rest c.args.trace.now c.args.work.now traced

pub refute_with-requires-clause-traced : goal.refute_with-requires-clause-traced
refute_with-requires-clause-traced c =
    let k = c.self.inside in
    let width : k.width ≡ c.args.self.now.width = search rules in
    let is : IsRemembered k.width (map (narrow_to k.width) (take k.count c.args.known.now)) k.run = search rules in
    let rest : c.in_ok-further.further.now ≡ map (narrow_to k.width) (drop k.count c.args.known.now) = search rules in
    let traced = rw (← width) at c.requires.traced in
    rw c.exchange_all.ensures
    (known-traced k.width k.count c.args.known.now c.in_ok-further.further.now k.run is rest c.args.trace.now c.args.work.now traced c.rows_behind.new.rows.rows c.in_ok-rows_behind.ensures.number)

pub returns-in_err-rows_behind-clause-gives : goal.returns-in_err-rows_behind-clause-gives
returns-in_err-rows_behind-clause-gives c =
    let k = c.self.inside in
    let width : k.width ≡ c.args.self.now.width = search rules in
    let is : IsRemembered k.width (map (narrow_to k.width) (take k.count c.args.known.now)) k.run = search rules in
    let rest : c.in_ok-further.further.now ≡ map (narrow_to k.width) (drop k.count c.args.known.now) = search rules in
    let fault = known-refused k.width k.count c.args.known.now c.in_ok-further.further.now k.run is rest c.args.trace.now c.args.work.now
    (stop_fault c.in_err-rows_behind.field-0.0) c.rows_behind.new.work c.in_err-rows_behind.ensures.gives.agrees in
    rw (← width) (record { agrees = grind (arith, common_steps, fault); counted = c.rows_behind.ensures.gives.counted })

pub returns-clause-gives : goal.returns-clause-gives
returns-clause-gives c =
    let k = c.self.inside in
    let width : k.width ≡ c.args.self.now.width = search rules in
    let is : IsRemembered k.width (map (narrow_to k.width) (take k.count c.args.known.now)) k.run = search rules in
    let rest : c.in_ok-further.further.now ≡ map (narrow_to k.width) (drop k.count c.args.known.now) = search rules in
    let made = known-made k.width k.count c.args.known.now c.in_ok-further.further.now k.run is rest c.args.trace.now c.args.work.now c.rows_behind.new.rows.rows c.rows_behind.new.work c.in_ok-rows_behind.ensures.gives.agrees in
    let told = rw c.exchange_all.ensures at c.refute_with.ensures.gives in
    rw (← width)
    (record {
      agrees = rw made told.agrees;
      counted = counted_on c.args.work.now c.rows_behind.new.work c.refute_with.new.work c.in_ok-rows_behind.ensures.gives.counted told.counted;
    })
