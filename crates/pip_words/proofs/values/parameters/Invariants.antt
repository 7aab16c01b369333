use Rattle.pip_words.proofs.Words.{◌≡◌, ◌≤◌, take, map, Some, length, IsTrue, list_all, most_params, all_parameters}
use Rattle.pip_model.specs.Listed.{all_fit}
use Rattle.pip_model.specs.Numbers.{is_nonneg}
use Rattle.pip_words.proofs.values.parameters.Given as goal

abbrev pub invariant-loop-text : goal.invariant-loop-text
invariant-loop-text l = record {
  so_far : all_parameters (take l.text-index (map (λ text. text.now) l.texts)) ≡ Some l.entries.items;
  few : length l.texts ≤ most_params;
  long : length l.entries.items ≡ l.text-index;
  fitting : IsTrue (all_fit l.entries.items);
  nonnegative : IsTrue (list_all is_nonneg l.entries.items);
}
