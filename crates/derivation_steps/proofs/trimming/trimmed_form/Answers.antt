use Rattle.derivation_steps.proofs.Words.{◌≡◌, ◌∙◌, ap, arith, common_steps, [], ◌∷◌, ◌++◌, take, widen_to}
use Rattle.derivation_steps.proofs.Spreading.{spread_front}
use Rattle.derivation_steps.proofs.trimming.trimmed_form.Goals as goal

pub returns-clause-value : goal.returns-clause-value
returns-clause-value c = λ w h.
    let made : c.from_entries.result ≡ take c.trimmed_len-n.result c.args.coefficients.now ++ c.args.constant ∷ [] = grind (arith, common_steps) in
    ap (widen_to w) made ∙ spread_front w c.trimmed_len-n.result c.args.coefficients.now c.args.constant c.trimmed_len-n.ensures.within c.trimmed_len-n.ensures.zeros h
