-- Refusals that this reader gives: any but an option word.
use Rattle.std.specs.Prelude.{⊤}
use Rattle.pip_problem.specs.declared.refusal.ReadRefusal.{ReadRefusal}
use Rattle.pip_problem.specs.declared.refusal.ReadRefusal.TheVariants.{OptionWord}

abbrev pub IsNoOption : ReadRefusal → Type 0
IsNoOption (OptionWord word) = ⊥
IsNoOption _ = ⊤
