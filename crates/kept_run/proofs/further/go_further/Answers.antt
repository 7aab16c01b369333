use Rattle.kept_run.proofs.Words.{◌∙◌, sym, subst, ℕ, ◌++◌, IsReplay, first_rows}
use Rattle.kept_run.proofs.further.go_further.Goals as goal

pub returns : goal.returns
returns c n K is =
    let of_first = subst (λ (k : ℕ). IsReplay (first_rows k K) c.args.m.now.run) (sym is.unknowns) is.replay in
    let of_all = c.in_ok-push_all_further.ensures.replay K of_first in
    record {
      unknowns = c.in_ok-run_to_end.ensures.unknowns ∙ c.in_ok-push_all_further.ensures.unknowns ∙ is.unknowns;
      stopped = c.in_ok-run_to_end.ensures.stopped;
      replay = c.in_ok-run_to_end.ensures.replay (first_rows n (K ++ c.args.forms.now))
          (subst (λ (k : ℕ). IsReplay (first_rows k (K ++ c.args.forms.now)) c.push_all_further.new.m) is.unknowns of_all);
    }
