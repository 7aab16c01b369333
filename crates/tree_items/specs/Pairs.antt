-- A context, and an answer or two.
use Rattle.std.specs.Prelude.{◌≡◌, ℕ}
use Rattle.program_model.specs.ItemKinds as kinds
use Rattle.quast.specs.Answers.{IsOver}
use Rattle.quast_text.specs.Spoken.{spoken_of}
use Rattle.tree_items.specs.declared.restricting.Pair.{Pair}
use Rattle.tree_items.specs.declared.trio.Trio.{Trio}

abbrev pub pair_of : Pair → kinds.Pair
pair_of p = record { rows = p.rows.forms; first = spoken_of p.first }

abbrev pub trio_of : Trio → kinds.Trio
trio_of t = record { rows = t.rows.forms; first = spoken_of t.first; second = spoken_of t.second }

-- all are over m parameters
pub record IsPair (m : ℕ) (p : Pair) : Type 0 where
  pub width : p.rows.width ≡ m
  pub scope : IsOver m p.first.answer

pub record IsTrio (m : ℕ) (t : Trio) : Type 0 where
  pub width : t.rows.width ≡ m
  pub first : IsOver m t.first.answer
  pub second : IsOver m t.second.answer
