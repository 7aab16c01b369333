use Rattle.std.proofs.Common.{All}
use Rattle.form_run.proofs.Words.{rules, ◌≡◌, sym, subst, ℕ, ◌+◌, ◌++◌, [], List, ℤ, length, map, widen_to, start}
use Rattle.form_run.proofs.Started.{start_long, both_wide, first_is}
use Rattle.std.proofs.lemmas.Result.{IfOk-weaker}
use Rattle.form_run.proofs.starting.start_by_forms.Goals as goal

pub measured-requires-clause-places : goal.measured-requires-clause-places
measured-requires-clause-places c =
    let e : c.start_short.new.rows ≡ record { unknowns = c.args.n; width = 0; rows = start c.args.n 0 [] } = search rules in
    rw e (start_long c.args.n 0)

pub measured-requires-clause-wide : goal.measured-requires-clause-wide
measured-requires-clause-wide c =
    let n : c.start_short.new.rows.unknowns ≡ c.args.n = search rules in
    let lists : c.push_forms-2.new.all.lists ≡ map (widen_to c.args.n) c.args.forms.now ++ map (widen_to c.args.n) c.args.further.now = search rules in
    subst (λ (k : ℕ). All (λ (f : List ℤ). length f ≡ k + 1) c.push_forms-2.new.all.lists) (sym n)
    (subst (All (λ (f : List ℤ). length f ≡ c.args.n + 1)) (sym lists) (both_wide c.args.n c.args.forms.now c.args.further.now c.requires.forms c.requires.further))

pub returns-clause-value : goal.returns-clause-value
returns-clause-value c =
    let n : c.start_short.new.rows.unknowns ≡ c.args.n = search rules in
    let lists : c.push_forms-2.new.all.lists ≡ map (widen_to c.args.n) c.args.forms.now ++ map (widen_to c.args.n) c.args.further.now = search rules in
    IfOk-weaker c.measured.result _ _ (λ t e. first_is c.args.n c.args.forms.now c.args.further.now c.push_forms-2.new.all.lists t (subst (λ (k : ℕ). t ≡ record { unknowns = k; width = 0; rows = start k 0 c.push_forms-2.new.all.lists }) n e) lists) c.measured.ensures.value
