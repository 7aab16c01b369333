-- The commands, each by one record: what it reads of an input, the text that it makes of that, and what is promised.
use Rattle.std.specs.Prelude.{ℕ, ℤ, ◌≤◌, Bool, true, false, not, List, length, Result, Ok, ⊤, MatchBool, if◌then◌else◌}
use Rattle.pip_model.specs.Limits.{most_nesting, most_params, most_input_bytes}
use Rattle.pip_model.specs.Problem.{Problem}
use Rattle.pip_model.specs.TreeText.{Commented}
use Rattle.pip_model.specs.Run.{Budget, IsBudget}
use Rattle.program_model.specs.Trial.{trial_text}
use Rattle.program_model.specs.Endings.{Ending}
use Rattle.program_model.specs.Items.{ItemAt, one_item, text_of_item}
use Rattle.program_model.specs.ItemKinds.{problem_item, matrix_item, answer_item, Triple, triple, Pair, pair, Trio, trio}
use Rattle.program_model.specs.ItemTexts.{solved_text, certified_text, value_text, simplified_text, pieces_text, checked_text, shared_text, restricted_text, same_text, least_text}
use Rattle.program_model.specs.RightTexts.{IsSolvedText, IsCertified, IsValueText, IsValueEnd, IsSimplifiedText, IsRightVerdict, IsRightSharing, IsRestrictedText, IsRestrictEnd, IsSameText, IsSameEnd, IsLeastText, IsLeastEnd, IsPiecesText, IsPiecesEnd}

-- What a command is. An input that it takes is read whole before an item is answered, or problem by problem.
pub record Way : Type 1 where
  pub Item : Type 0
  pub takes_input : Bool
  pub by_problem : Bool
  -- the item at a place, with the place after it
  pub item_at : List ℕ → ℕ → ItemAt Item
  -- an item's text, or the end where the command refuses it
  pub text_of : Item → Result (List ℕ) Ending
  -- what is promised of the text of an item, and of the end at a refused item
  pub IsRightText : Item → List ℕ → Type 0
  pub IsRightEnd : Item → Ending → Type 0
  -- the inputs for which the command may be asked
  pub MayBeAsked : List ℕ → Type 0

-- the words never ask for certificates of simplified answers
pub record SolveOptions : Type 0 where
  pub polylib : Bool
  pub simplify : Bool
  pub certificate : Bool
  pub budget : Budget

-- with the vector of `eval`, else the number of parameters, or the trial's seed and its count of problems; a budget
-- is of each item alone
pub data Command : Type 0 where
  Solve : SolveOptions → Command
  Eval : List ℤ → Command
  Simplify : ℕ → Command
  CheckAll : Command
  ShareAll : Command
  Trial : ℕ → ℕ → Command
  Restrict : ℕ → Budget → Command
  Same : ℕ → Budget → Command
  Least : ℕ → Budget → Command
  Pieces : ℕ → Command

-- where nothing is promised of an end but that it is the command's
abbrev pub any_end : {A : Type 0} → A → Ending → Type 0
any_end x e = ⊤

-- every command but the trial takes an input, and only native problems are read one by one
abbrev pub way : Command → Way
way (Solve o) = record {
  Item = Problem;
  takes_input = true;
  by_problem = not o.polylib;
  item_at = λ bytes place. if o.polylib then matrix_item bytes place else problem_item bytes place;
  text_of = λ P. if o.certificate then certified_text o.budget P else solved_text o.simplify o.budget P;
  IsRightText = λ P t. MatchBool o.certificate (IsCertified P t) (IsSolvedText P t);
  IsRightEnd = any_end;
  MayBeAsked = λ bytes. MatchBool o.certificate (IsBudget o.budget) (o.budget.nesting ≤ most_nesting);
}
way (Eval u) = record {
  Item = Commented;
  takes_input = true;
  by_problem = false;
  item_at = λ bytes place. answer_item bytes (length u) place;
  text_of = value_text u;
  IsRightText = IsValueText u;
  IsRightEnd = IsValueEnd u;
  MayBeAsked = λ bytes. ⊤;
}
way (Simplify m) = record {
  Item = Commented;
  takes_input = true;
  by_problem = false;
  item_at = λ bytes place. answer_item bytes m place;
  text_of = simplified_text;
  IsRightText = IsSimplifiedText m;
  IsRightEnd = any_end;
  MayBeAsked = λ bytes. m ≤ most_params;
}
way CheckAll = record {
  Item = Triple;
  takes_input = true;
  by_problem = false;
  item_at = triple;
  text_of = checked_text;
  IsRightText = IsRightVerdict;
  IsRightEnd = any_end;
  MayBeAsked = λ bytes. ⊤;
}
way ShareAll = record {
  Item = Triple;
  takes_input = true;
  by_problem = false;
  item_at = triple;
  text_of = shared_text;
  IsRightText = IsRightSharing;
  IsRightEnd = any_end;
  MayBeAsked = λ bytes. length bytes ≤ most_input_bytes;
}
way (Trial seed count) = record {
  Item = Unit {0};
  takes_input = false;
  by_problem = false;
  item_at = λ bytes place. one_item (Ok tt) place;
  text_of = λ u. Ok (trial_text seed count);
  IsRightText = λ u t. ⊤;
  IsRightEnd = any_end;
  MayBeAsked = λ bytes. ⊤;
}
way (Restrict m b) = record {
  Item = Pair;
  takes_input = true;
  by_problem = false;
  item_at = λ bytes place. pair bytes m place;
  text_of = restricted_text b m;
  IsRightText = IsRestrictedText m;
  IsRightEnd = IsRestrictEnd m;
  MayBeAsked = λ bytes. m ≤ most_params;
}
way (Same m b) = record {
  Item = Trio;
  takes_input = true;
  by_problem = false;
  item_at = λ bytes place. trio bytes m place;
  text_of = same_text b m;
  IsRightText = IsSameText m;
  IsRightEnd = IsSameEnd m;
  MayBeAsked = λ bytes. m ≤ most_params;
}
way (Least m b) = record {
  Item = Trio;
  takes_input = true;
  by_problem = false;
  item_at = λ bytes place. trio bytes m place;
  text_of = least_text b m;
  IsRightText = IsLeastText m;
  IsRightEnd = IsLeastEnd m;
  MayBeAsked = λ bytes. (m ≤ most_params) × (b.nesting ≤ most_nesting);
}
way (Pieces m) = record {
  Item = Commented;
  takes_input = true;
  by_problem = false;
  item_at = λ bytes place. answer_item bytes m place;
  text_of = pieces_text;
  IsRightText = IsPiecesText m;
  IsRightEnd = IsPiecesEnd;
  MayBeAsked = λ bytes. m ≤ most_params;
}

-- ---- what a command's record says, by the command

abbrev pub Item : Command → Type 0
Item c = (way c).Item

abbrev pub item_at : (c : Command) → List ℕ → ℕ → ItemAt (Item c)
item_at c = (way c).item_at

abbrev pub text_of : (c : Command) → Item c → Result (List ℕ) Ending
text_of c = (way c).text_of

-- the text of the item at a place, with the place after it; or none where none is left; or the end
abbrev pub item_text : Command → List ℕ → ℕ → ItemAt (List ℕ)
item_text c bytes place = text_of_item (text_of c) (item_at c bytes place)
