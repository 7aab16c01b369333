use Rattle.context_points.proofs.Words.{rules, arith, ◌≡◌, ◌∙◌, sym, [], ◌∷◌, has_point_is}
use Rattle.kept_run.proofs.Leaving.{run_same}
use Rattle.context_points.proofs.context.Context.point_with_wider.Goals as goal

pub ask_known-requires : goal.ask_known-requires
ask_known-requires c = record {
  narrow = rw c.from_ref.ensures.value (record { some = omega (arith, c.width.ensures.entries); most = omega (arith, c.requires.narrow, c.prepare.ensures.kept.width) }, tt);
}

pub returns-clause-gives : goal.returns-clause-gives
returns-clause-gives c =
    let width : c.self.inside.width ≡ c.args.self.now.width = search rules in
    let forms : c.deref-2.result.now ≡ c.args.self.now.forms = search rules in
    let known : c.ask_known.new.work ≡ c.args.work.now = search rules in
    let by_forms : c.ask_by_forms.new.work ≡ c.ask_known.new.work = search rules in
    let same = by_forms ∙ known in
    let run = sym (has_point_is c.self.inside.width c.deref-2.result.now (c.args.form.now ∷ []) c.ask_by_forms.new.work) in
    rw (← width, ← forms, ← same) (run_same c.ask_plainly.ensures.gives run)
