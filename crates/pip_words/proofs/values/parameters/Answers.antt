use Rattle.pip_words.proofs.Words.{ap, sym, ◌∙◌, map, length, nat_le, add-one, arith, rules, common_steps, most_params, parameter_of, all_parameters}
use Rattle.std.proofs.lemmas.List.Folds.{list_all-append}
use Rattle.pip_words.proofs.Parameters.{refused, more, none_either}
use Rattle.pip_words.proofs.values.parameters.Goals as goal

pub returns-in-None : goal.returns-in-None
returns-in-None c = none_either (nat_le (length (map (λ text. text.now) c.args.texts.now)) most_params)
    (all_parameters (map (λ text. text.now) c.args.texts.now))
    (refused c.args.texts.now c.loop-text.text-index _ c.loop-text-test.true
    (ap parameter_of (sym c.as_bytes.ensures.value) ∙ sym c.in-None.ensures.value))

pub loop-text-preserved : goal.loop-text-preserved
loop-text-preserved c = record {
  so_far = rw (add-one, c.in_ok-push-in-Some.ensures.items) (more c.args.texts.now c.loop-text.text-index _ c.loop-text.entries.items _ c.loop-text-test.true c.loop-text.invariant.so_far
      (ap parameter_of (sym c.as_bytes.ensures.value) ∙ search rules));
  few = c.loop-text.invariant.few;
  long = grind (arith, common_steps);
  fitting = grind (arith, common_steps, list_all-append);
  nonnegative = grind (arith, common_steps, list_all-append);
}
