use Rattle.pip_trial.proofs.Words.{◌≡◌, [], ◌∷◌, ◌++◌, arith, rules}
use Rattle.pip_trial.proofs.Steps.{drawing_more, drawing_done}
use Rattle.pip_trial.proofs.draw.push_coefficients.Goals as goal

pub loop-preserved : goal.loop-preserved
loop-preserved c =
    let z = c.draw_number.ensures in
    let pushed : c.push.new.self.items ≡ c.loop.entries.items ++ c.draw_number.result ∷ [] = search rules in
    drawing_more c.args.count c.loop.counter c.loop.generator c.draw_number.new.generator _ c.loop.entries.items c.push.new.self.items _ c.draw_number.result
    (omega arith) z.value z.fits z.state pushed c.loop.invariant

pub returns-clause-items : goal.returns-clause-items
returns-clause-items c = (drawing_done c.args.count c.loop.counter c.loop.generator _ c.loop.entries.items _ (omega arith) c.loop.invariant).0

pub returns-clause-state : goal.returns-clause-state
returns-clause-state c = (drawing_done c.args.count c.loop.counter c.loop.generator _ c.loop.entries.items _ (omega arith) c.loop.invariant).1
