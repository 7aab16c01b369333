use Rattle.refutation_steps.proofs.Words.{rules, arith, ◌≡◌, ◌∙◌, refl, ap, sym, List, [], ◌∷◌, length, length-append, Row, row_at, constant_cut}
use Rattle.refutation_steps.proofs.Tracing.{starts_trace, goes-on-pivot, goes-on-cut, goes-less, ends-bottom}
use Rattle.refutation_steps.proofs.traced_rows.refute_run.Goals as goal

pub returns-in-Bottom : goal.returns-in-Bottom
returns-in-Bottom g c =
    let taken : c.take_steps.result ≡ c.trace_last.new.trace.steps = search rules in
    let told = rw c.in-Bottom.is at c.in_ok-r.ensures in
    record { gives = rw (taken, c.in_ok-trace_last-in-Bottom.ensures.ok) (ends-bottom _ _ (g.R.PointRows.table c.take_turn.new.rows) _ _ _ _ _ c.loop-rows.invariant told.gives.counted g.R.PointRows.fault c.in-Bottom.r (told.place refl) told.gives.agrees) }

pub loop-rows-smaller-in-Pivot : goal.loop-rows-smaller-in-Pivot
loop-rows-smaller-in-Pivot g c =
    let told = rw c.in-Pivot.is at c.in_ok-r.ensures in
    goes-less _ _ (g.R.PointRows.table c.take_turn.new.rows) _ _ _ _ _ c.loop-rows.invariant told.gives.counted told.gives.agrees

pub loop-rows-preserved-in-Pivot : goal.loop-rows-preserved-in-Pivot
loop-rows-preserved-in-Pivot g c =
    let told = rw c.in-Pivot.is at c.in_ok-r.ensures in
    rw c.exchange.ensures (goes-on-pivot _ _ _ _ _ _ _ _ c.loop-rows.invariant told.gives.counted c.in-Pivot.r c.in-Pivot.c told.scope (told.place refl) told.gives.agrees)

pub loop-rows-smaller : goal.loop-rows-smaller
loop-rows-smaller g c =
    let told = rw c.in-Cut.is at c.in_ok-r.ensures in
    goes-less _ _ (g.R.PointRows.table c.take_turn.new.rows) _ _ _ _ _ c.loop-rows.invariant told.gives.counted told.gives.agrees

pub loop-rows-preserved : goal.loop-rows-preserved
loop-rows-preserved g c =
    let told = rw c.in-Cut.is at c.in_ok-r.ensures in
    rw (c.in_ok-trace_cut-in-Cut.ensures.ok, c.trace_cut.ensures.kept) (goes-on-cut _ _ _ _ _ _ _ _ c.loop-rows.invariant told.gives.counted c.in-Cut.i told.scope (told.place refl) told.gives.agrees)

pub loop-rows-init : goal.loop-rows-init
loop-rows-init g c = starts_trace (g.R.PointRows.table c.args.rows.now) c.args.trace.now c.args.work.now c.requires.rows c.requires.traced

pub take_turn-requires-clause-rows : goal.take_turn-requires-clause-rows
take_turn-requires-clause-rows g c = c.loop-rows.invariant.rows

pub trace_last-requires-clause-row : goal.trace_last-requires-clause-row
trace_last-requires-clause-row g c =
    let at = (rw c.in-Bottom.is at c.in_ok-r.ensures).place refl in
    rw at.3 at.1

pub trace_last-requires-clause-traced : goal.trace_last-requires-clause-traced
trace_last-requires-clause-traced g c =
    let told = rw c.in-Bottom.is at c.in_ok-r.ensures in
    let at = told.place refl in
    record { rows_traced = c.loop-rows.invariant.traced.rows_traced ∙ sym (ap (λ (R : List Row). length R) at.3); columns_traced = c.loop-rows.invariant.traced.columns_traced ∙ sym told.scope.unknowns }

pub exchange-requires-clause-row : goal.exchange-requires-clause-row
exchange-requires-clause-row g c =
    let at = (rw c.in-Pivot.is at c.in_ok-r.ensures).place refl in
    rw c.loop-rows.invariant.traced.rows_traced at.1

pub exchange-requires-clause-column : goal.exchange-requires-clause-column
exchange-requires-clause-column g c =
    let at = (rw c.in-Pivot.is at c.in_ok-r.ensures).place refl in
    rw c.loop-rows.invariant.traced.columns_traced at.3

pub trace_cut-requires-clause-row : goal.trace_cut-requires-clause-row
trace_cut-requires-clause-row g c =
    let at = (rw c.in-Cut.is at c.in_ok-r.ensures).place refl in
    let rows = (g.R.PointRows.table c.loop-rows.rows).rows in
    omega (arith, at.2, ap (λ (R : List Row). length R) at.3, length-append rows (constant_cut (row_at rows c.in-Cut.i) ∷ []))

pub trace_cut-requires-clause-traced : goal.trace_cut-requires-clause-traced
trace_cut-requires-clause-traced g c =
    let told = rw c.in-Cut.is at c.in_ok-r.ensures in
    c.loop-rows.invariant.traced.columns_traced ∙ sym told.scope.unknowns
