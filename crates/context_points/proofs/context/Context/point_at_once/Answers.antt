use Rattle.context_points.proofs.Words.{rules, ◌≡◌, list_all, constant, is_nonneg}
use Rattle.context_points.proofs.AtOnce.{point_of_none, point_of_no_places}
use Rattle.context_points.proofs.context.Context.point_at_once.Goals as goal

pub returns-then-is_empty-clause-some : goal.returns-then-is_empty-clause-some
returns-then-is_empty-clause-some c w = point_of_none c.args.self.now.width c.args.self.now.forms w (search rules)

pub returns-then-self-eq0-clause-some : goal.returns-then-self-eq0-clause-some
returns-then-self-eq0-clause-some c w =
    let width : c.args.self.now.width ≡ 0 = search rules in
    let found : c.are_nonnegative.result ≡ list_all (λ f. is_nonneg (constant f)) c.args.self.now.forms = search rules in
    rw (width, found) (point_of_no_places c.args.self.now.forms w)
