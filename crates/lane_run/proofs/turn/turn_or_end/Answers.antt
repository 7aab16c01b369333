use Rattle.lane_run.proofs.Words.{◌≡◌, ℤ, Bool, Option, List, arith, Refused, Refusal, turn, point_setting, IsTurnOf, node_of, run_rows, forms_of, AreModest, IsRowBelow}
use Rattle.short_run.specs.Stops.{stop_fault}
use Rattle.lane_run.proofs.Modest.{are_modest}
use Rattle.lane_run.proofs.Passed.{ok_passed, err_passed}
use Rattle.lane_run.proofs.turn.turn_or_end.Goals as goal

pub returns-in-Some-clause-turn : goal.returns-in-Some-clause-turn
returns-in-Some-clause-turn c =
    let t = c.args.rows.now in
    let now = c.pivot_or_end.new.rows in
    let modest = are_modest t.unknowns c.args.forms.norm _ (omega (arith, c.unknowns.ensures.value, c.unknowns.ensures.few)) c.requires.small c.requires.within in
    ok_passed c.pivot_or_end.result
    (λ (o : Option Bool). (F : List (List ℤ)) → AreModest t.unknowns F → IsRowBelow t F c.in-Some.row → IsTurnOf t.unknowns (run_rows t F) (run_rows now F) c.args.work.now c.pivot_or_end.new.work o)
    (IsTurnOf t.unknowns (run_rows t (forms_of t.unknowns _)) (run_rows now (forms_of t.unknowns _)) c.args.work.now c.pivot_or_end.new.work)
    (λ o told. told (forms_of t.unknowns _) modest c.in-Some.ensures.some) c.pivot_or_end.ensures.turn

pub returns-in-Some-clause-refused : goal.returns-in-Some-clause-refused
returns-in-Some-clause-refused c =
    let t = c.args.rows.now in
    let modest = are_modest t.unknowns c.args.forms.norm _ (omega (arith, c.unknowns.ensures.value, c.unknowns.ensures.few)) c.requires.small c.requires.within in
    err_passed stop_fault c.pivot_or_end.result
    (λ (f : Refusal). (F : List (List ℤ)) → AreModest t.unknowns F → IsRowBelow t F c.in-Some.row → turn (point_setting t.unknowns) (node_of (run_rows t F)) c.args.work.now ≡ Refused f c.pivot_or_end.new.work)
    (λ (f : Refusal). turn (point_setting t.unknowns) (node_of (run_rows t (forms_of t.unknowns _))) c.args.work.now ≡ Refused f c.pivot_or_end.new.work)
    (λ f told. told (forms_of t.unknowns _) modest c.in-Some.ensures.some) c.pivot_or_end.ensures.refused
