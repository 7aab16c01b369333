use Rattle.solve_certified.proofs.Words.{rules, arith, ◌≡◌, ◌∙◌, ap, ◌+◌, scope_forms, case_of, KnownForms, staying}
use Rattle.solve_certified.proofs.GoalsBefore.{stays_first, stays_later, all_turned}
use Rattle.solve_certified.proofs.leaf.LeafMaking.turn_to.Goals.{then-r-gt0, else-r-gt0}
use Rattle.solve_certified.proofs.leaf.LeafMaking.turn_to.Goals as goal

pub returns-clause-turned : goal.returns-clause-turned
returns-clause-turned c =
    let m = c.args.self.now in
    let kept : c.if-r-gt0.known.forms ≡ staying c.args.self.now.leaf c.args.r (scope_forms c.args.self.now.leaf.problem.now (case_of c.args.self.now.leaf)) = elim c.if-r-gt0.branch [
      | then-r-gt0 w ↦ stays_later m c.args.r _ _ c.if-r-gt0.known.forms w.if-r-gt0.true c.requires.before.behind.forms (ap (λ (k : KnownForms). k.forms) (w.known-is ∙ w.drop_last.ensures))
      | else-r-gt0 w ↦ ap (λ (k : KnownForms). k.forms) w.known-is ∙ stays_first m c.args.r _ _ (omega (arith, w.if-r-gt0.false)) c.requires.before.behind.forms
    ] in
    let width : c.if-r-gt0.known.width ≡ c.args.self.now.leaf.scope + c.args.self.now.leaf.problem.now.unknowns = search rules in
    record {
      width = c.push_goal.ensures.pushed.width ∙ width;
      behind = record { forms = all_turned m c.args.r _ c.if-r-gt0.known.forms c.push_goal.new.known.forms kept c.push_goal.ensures.pushed.stay c.in_ok-push_goal.ensures.pushed.ok };
    }
