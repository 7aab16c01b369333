use Rattle.quast.proofs.Words.{◌≡◌, [], ◌∷◌, ◌++◌, refl, true, arith, rules, Fits, err_from_is_err_and, all_fit, value_listed, All-push}
use Rattle.std.proofs.lemmas.Grind.{common_steps}
use Rattle.quast.proofs.Numerators.{fit-step, fit-end, fit-refused}
use Rattle.quast.proofs.place.put_numerators.Goals as goal

pub returns-in_err-number-clause-listed : goal.returns-in_err-number-clause-listed
returns-in_err-number-clause-listed c =
    let p = err_from_is_err_and c.from_residual.result c.from_residual.ensures.1 in
    rw p.1 (λ over. fit-refused c.args.vector.now c.args.components.now c.loop-c.c-index c.c-item.result (omega arith) c.c-item.is (rw c.form.ensures at (c.in_err-number.ensures.listed refl)))

pub loop-c-preserved : goal.loop-c-preserved
loop-c-preserved c =
    let here : all_fit (value_listed c.c-item.result.form c.args.vector.now) ≡ true = search rules in
    let items : c.push.new.self.items ≡ c.loop-c.out.items ++ c.in_ok-number.number ∷ [] = search rules in
    record {
      room = omega (arith, c.in-Ok.ensures.len, c.in-Ok.ensures.capacity, c.loop-c.invariant.room, c.loop-c-test.true);
      kept = omega (arith, c.in-Ok.ensures.capacity, c.loop-c.invariant.kept);
      fit = fit-step _ c.args.components.now c.loop-c.c-index c.c-item.result (omega arith) c.c-item.is c.loop-c.invariant.fit here;
      numbers = rw items (All-push Fits _ _ c.loop-c.invariant.numbers c.in_ok-number.ensures.fits);
      values = grind (arith, common_steps);
    }

pub returns-clause-listed : goal.returns-clause-listed
returns-clause-listed c = fit-end c.args.vector.now c.args.components.now c.loop-c.c-index (omega arith) c.loop-c.invariant.fit
