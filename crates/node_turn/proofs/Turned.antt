-- A turn, and the context of its path.
use Rattle.node_turn.proofs.Words.{◌≡◌, refl, ap, ◌∙◌, List, ℤ, Result, Ok, Err, Option, Work, Outcome, Done, AgreesCounted, TableauRows, ScopedForms, Path, turn_of}
use Rattle.pip_model.specs.Run as run
use Rattle.node_turn.specs.declared.turn.Turn.{Turn}
use Rattle.node_turn.specs.declared.turn.Turn.TheVariants as code

-- of the context a turn sees the forms alone
pub in_context : (t : TableauRows) (path : Path) (k : ScopedForms) → k.forms ≡ path.context.forms → (T : Turn) → turn_of t (record path { context = k }) T ≡ turn_of t path T
in_context t path k e (code.Closed tree) = refl
in_context t path k e code.Again = ap (λ (fs : List (List ℤ)). turn_of t (record path { context = record k { forms = fs } }) code.Again) e
in_context t path k e (code.Split c) = ap (λ (fs : List (List ℤ)). turn_of t (record path { context = record k { forms = fs } }) (code.Split c)) e
in_context t path k e (code.Below i q) = ap (λ (fs : List (List ℤ)). turn_of t (record path { context = record k { forms = fs } }) (code.Below i q)) e

pub agrees_same : {X Y E : Type 0} (f g : X → Y) → ((x : X) → f x ≡ g x) → (fault : E → Option run.Refusal) (r : Result X E) (w : Work) (o : Outcome Y) → AgreesCounted f fault r w o → AgreesCounted g fault r w o
agrees_same f g same fault (Ok x) w o h = h ∙ ap (λ y. Done y w) (same x)
agrees_same f g same fault (Err e) w o h = h
