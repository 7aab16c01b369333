use Rattle.certificate_check.proofs.Words.{◌≡◌, ℤ, pos, [], ◌∷◌, ◌++◌, get_or, arith, to_z-of_z, index_of}
use Rattle.std.proofs.lemmas.Grind.{common_steps}
use Rattle.certificate_check.proofs.Commons.{mapped_step}
use Rattle.certificate_check.proofs.renumbered.renumbered_terms.Goals as goal

pub loop-term-preserved : goal.loop-term-preserved
loop-term-preserved c =
    let here = get_or c.args.terms.now c.loop-term.term-index (pos 0, pos 0) in
    let pushed : c.push.new.self ≡ c.loop-term.made ++ (index_of c.args.by here.0, here.1) ∷ [] = grind (arith, common_steps, to_z-of_z) in
    mapped_step (λ (t : ℤ × ℤ). (index_of c.args.by t.0, t.1)) c.args.terms.now c.loop-term.term-index (pos 0, pos 0) c.loop-term.made c.push.new.self (omega arith) pushed c.loop-term.invariant
