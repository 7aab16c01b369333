-- What parts of a run leave together, and what a part tells of another that gives the same.
use Rattle.point_turns.proofs.Words.{◌≡◌, refl, ◌∙◌, ap, arith, subst, Option, Some, None, IfSome, Result, Work, Outcome, Refused, Refusal, Counted, go_on, AgreesCounted, IsCountedRun, TableauRows, HasSameScope}

pub scope_none : (t : TableauRows) → HasSameScope t t
scope_none t = record { unknowns = refl; width = refl; rows = λ h. h }

pub scope_on : (t between now : TableauRows) → HasSameScope t between → HasSameScope between now → HasSameScope t now
scope_on t between now a b = record {
  unknowns = b.unknowns ∙ a.unknowns;
  width = b.width ∙ a.width;
  rows = λ h. omega (arith, a.unknowns, b.rows (omega (arith, a.unknowns, a.rows h)));
}

pub run_same : {X Y E : Type 0} {view : X → Y} {fault : E → Option Refusal} {r : Result X E} {before now : Work} {a b : Counted Y}
    → IsCountedRun view fault r before now a → a before ≡ b before → IsCountedRun view fault r before now b
run_same {Y = Y} {view = view} {fault = fault} {r = r} {now = now} told same = record {
  agrees = subst (λ (o : Outcome Y). AgreesCounted view fault r now o) same told.agrees;
  counted = told.counted;
}

-- a part that goes on from another is refused where that is
pub passes_refusal : {X Y : Type 0} (o : Outcome X) (k : X → Counted Y) (whole : Outcome Y) → whole ≡ go_on o k → (f : Option Refusal) (w : Work)
    → IfSome f (λ e. o ≡ Refused e w) → IfSome f (λ e. whole ≡ Refused e w)
passes_refusal o k whole is None w h = h
passes_refusal o k whole is (Some e) w h = is ∙ ap (λ p. go_on p k) h
