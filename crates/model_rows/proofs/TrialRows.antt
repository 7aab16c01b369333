-- Trials whose lines an independent program in another language gave (outside/run.py).
use Rattle.model_rows.proofs.Words.{◌≡◌, refl, codes, digits}
use Rattle.program_model.specs.Trial.{trial_text}

record TrialRowsHold : Type 0 where
  trial_7_1 : trial_text 7 1 ≡ codes "problems 1 lists 3 bottoms 2 quotients 1 refused 0\n"
  trial_7_5 : trial_text 7 5 ≡ codes "problems 5 lists 6 bottoms 3 quotients 1 refused 0\n"
  trial_7_9 : trial_text 7 9 ≡ codes "problems 9 lists 10 bottoms 5 quotients 1 refused 0\n"
  trial_0_20 : trial_text 0 20 ≡ codes "problems 20 lists 18 bottoms 14 quotients 4 refused 0\n"
  trial_1_10 : trial_text 1 10 ≡ codes "problems 10 lists 15 bottoms 7 quotients 3 refused 0\n"
  trial_2_10 : trial_text 2 10 ≡ codes "problems 10 lists 7 bottoms 11 quotients 2 refused 0\n"
  trial_3_10 : trial_text 3 10 ≡ codes "problems 10 lists 9 bottoms 14 quotients 3 refused 0\n"
  trial_5_10 : trial_text 5 10 ≡ codes "problems 10 lists 14 bottoms 2 quotients 2 refused 0\n"
  trial_42_10 : trial_text 42 10 ≡ codes "problems 10 lists 20 bottoms 7 quotients 7 refused 0\n"
  trial_123_10 : trial_text 123 10 ≡ codes "problems 10 lists 22 bottoms 6 quotients 9 refused 0\n"
  trial_99_12 : trial_text 99 12 ≡ codes "problems 12 lists 16 bottoms 14 quotients 4 refused 0\n"

trial_rows_hold : TrialRowsHold
unfolding digits
trial_rows_hold = record {
  trial_7_1 = refl;
  trial_7_5 = refl;
  trial_7_9 = refl;
  trial_0_20 = refl;
  trial_1_10 = refl;
  trial_2_10 = refl;
  trial_3_10 = refl;
  trial_5_10 = refl;
  trial_42_10 = refl;
  trial_123_10 = refl;
  trial_99_12 = refl;
}
