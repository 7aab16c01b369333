use Rattle.refuter.proofs.Words.{rules, arith, ◌≡◌, ◌∙◌, sym, ap, ℤ, List, length, map, take, narrow_to}
use Rattle.std.proofs.lemmas.List.{take_all}
use Rattle.refuter.proofs.kept_front.KeptFront.recall.Goals as goal

pub returns-clause-first : goal.returns-clause-first
returns-clause-first c =
    let forms : c.in_ok-forms.forms.now ≡ map (narrow_to c.args.width) (take (length c.args.known.now) c.args.known.now) = c.in_ok-forms.ensures.value ∙ ap (λ (X : List (List ℤ)). map (narrow_to c.args.width) X) (sym (take_all (length c.args.known.now) c.args.known.now (omega arith))) in
    record {
      few = omega arith;
      run = record { context = rw (← forms) c.in_ok-forms.ensures.context; remembered = λ h. rw (← forms) (search (rules, h)) };
    }
