use Rattle.refuter.proofs.Words.{rules, arith, ◌≡◌, ◌∙◌, ap, sym, ◌≤◌, length, take, length-take-le, take-take}
use Rattle.refuter.proofs.KeptFirst.{first-same}
use Rattle.refuter.proofs.refuter.Refuter.recall_first.Goals as goal

pub recall_others-requires-clause-first : goal.recall_others-requires-clause-first
recall_others-requires-clause-first c =
    let known = c.args.known.now in
    let n = c.self.inside.kept in
    let front = c.split_at.result.0.now in
    let few : n ≤ length known = search rules in
    let is : front ≡ take n known = c.split_at.ensures.front in
    let long : length front ≡ n = ap length is ∙ length-take-le n known few in
    let same : c.self.inside.front ≡ c.args.self.now = search rules in
    rw (same, long) (first-same c.args.self.now known front n c.requires.first (ap (take n) is ∙ take-take n n known (omega arith)))

pub returns-clause-first : goal.returns-clause-first
returns-clause-first c =
    let known = c.args.known.now in
    let n = c.self.inside.kept in
    let front = c.split_at.result.0.now in
    let few : n ≤ length known = search rules in
    let is : front ≡ take n known = c.split_at.ensures.front in
    let long : length front ≡ n = ap length is ∙ length-take-le n known few in
    let made = c.in_ok-recall_others.ensures.first in
    first-same c.recall_others.new.self front known n made (sym (ap (take n) is ∙ take-take n n known (omega arith))) (omega (arith, made.few, long))
