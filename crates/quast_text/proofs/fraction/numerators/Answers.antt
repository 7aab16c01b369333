use Rattle.quast_text.proofs.Words.{◌≡◌, ◌++◌, ◌∷◌, [], arith, rules, err_from_is_err_and, All-push, fits, Fits, numerator_of}
use Rattle.std.specs.Prelude.{IsFalse}
use Rattle.quast_text.proofs.Denominators.{numerator_refused, numerators_step, numerators_end, numerators_fit}
use Rattle.quast_text.proofs.fraction.numerators.Goals as goal

pub returns-in_err-numerator-clause-listed : goal.returns-in_err-numerator-clause-listed
returns-in_err-numerator-clause-listed c =
    let p = err_from_is_err_and c.from_residual-in_err-numerator.result c.from_residual-in_err-numerator.ensures.1 in
    let wide : IsFalse (fits (numerator_of c.args.common c.fraction-item.result)) = search rules in
    rw p.1 (λ over. numerator_refused c.args.common c.args.fractions.now c.loop-fraction.fraction-index c.fraction-item.result (omega arith) c.fraction-item.is wide)

pub loop-fraction-preserved : goal.loop-fraction-preserved
loop-fraction-preserved c =
    let made : c.in_ok-numerator.numerator ≡ numerator_of c.args.common c.fraction-item.result = search rules in
    let items : c.push.new.self.items ≡ c.loop-fraction.found.items ++ c.in_ok-numerator.numerator ∷ [] = search rules in
    let fit : Fits c.in_ok-numerator.numerator = search rules in
    rw items (record {
      values = numerators_step _ c.in_ok-numerator.numerator c.args.fractions.now c.loop-fraction.fraction-index c.fraction-item.result c.loop-fraction.found.items (omega arith) c.fraction-item.is c.loop-fraction.invariant.values (search rules);
      fits = All-push Fits c.loop-fraction.found.items c.in_ok-numerator.numerator c.loop-fraction.invariant.fits fit;
    })

pub returns-clause-listed : goal.returns-clause-listed
returns-clause-listed c = numerators_fit c.args.common c.args.fractions.now c.loop-fraction.fraction-index c.loop-fraction.found.items (omega arith) (search rules) c.loop-fraction.invariant.fits

pub returns-clause-value : goal.returns-clause-value
returns-clause-value c = numerators_end c.args.common c.args.fractions.now c.loop-fraction.fraction-index c.loop-fraction.found.items (omega arith) (search rules)
