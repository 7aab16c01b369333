-- The law of each command: what it reads ends further on, and what it makes of that is right.
use Rattle.headline.proofs.Words.{◌≡◌, ℕ, ◌≤◌, Bool, true, false, List, length, Ok, Err, IfOk, IfSome, ⊤, if◌then◌else◌, most_nesting, Problem, IsCommented, IsBudget, Ending, problem_item, matrix_item, solved_text, certified_text, Way, SolveOptions, Command, Solve, Eval, Simplify, CheckAll, ShareAll, Trial, Restrict, Same, Least, Pieces, way, IsSolvedText, IsCertified, Whole}
use Rattle.std.specs.Bool.{MatchBool}
use Rattle.headline.proofs.CertifiedText.{certified_text-right}
use Rattle.headline.proofs.ReadItems.{IsRead, IsTriple, IsPair, IsTrio, one-reads, problem-reads, matrix-reads, answer-reads, triple-reads, pair-reads, trio-reads}
use Rattle.headline.proofs.RightAnswers.{solved_right, simplified_right, verdict_right, sharing_right}
use Rattle.headline.proofs.RightValues.{value_right, value_end}
use Rattle.headline.proofs.RightTrees.{restricted_right, restrict_end, same_right, same_end, least_right, least_end, pieces_right, pieces_end}

-- What is known of a command's items. No item ends behind the last place.
pub record IsLawful (w : Way) (bytes : List ℕ) : Type 1 where
  pub IsItem : w.Item → Type 0
  pub last_place : ℕ
  pub reads : (place : ℕ) → place ≤ last_place → IfOk (w.item_at bytes place) (λ r. IfSome r (IsRead last_place place IsItem))
  pub text_right : w.MayBeAsked bytes → (x : w.Item) → IsItem x → (t : List ℕ) → w.text_of x ≡ Ok t → w.IsRightText x t
  pub end_right : w.MayBeAsked bytes → (x : w.Item) → IsItem x → (e : Ending) → w.text_of x ≡ Err e → w.IsRightEnd x e

-- ---- solve, in both formats, with certificates or without

solve_reads : (bytes : List ℕ) (polylib : Bool) (place : ℕ) → place ≤ (if polylib then 1 else length bytes)
    → IfOk (if polylib then matrix_item bytes place else problem_item bytes place) (λ r. IfSome r (IsRead (if polylib then 1 else length bytes) place Whole))
solve_reads bytes true place h = matrix-reads bytes place
solve_reads bytes false place h = problem-reads bytes place h

solve_right : (o : SolveOptions) (certificate : Bool) (P : Problem) → MatchBool certificate (IsBudget o.budget) (o.budget.nesting ≤ most_nesting) → Whole P → (t : List ℕ)
    → (if certificate then certified_text o.budget P else solved_text o.simplify o.budget P) ≡ Ok t → MatchBool certificate (IsCertified P t) (IsSolvedText P t)
solve_right o true P asked whole t h = certified_text-right o.budget asked P whole t h
solve_right o false P asked whole t h = solved_right o.simplify o.budget P asked whole t h

-- ---- of each command

pub lawful : (c : Command) (bytes : List ℕ) → IsLawful (way c) bytes
lawful (Solve o) bytes = record {
  IsItem = Whole;
  last_place = if o.polylib then 1 else length bytes;
  reads = solve_reads bytes o.polylib;
  text_right = λ asked P i. solve_right o o.certificate P asked i;
  end_right = λ asked P i e h. tt;
}
lawful (Eval u) bytes = record {
  IsItem = IsCommented (length u);
  last_place = length bytes;
  reads = answer-reads bytes (length u);
  text_right = λ asked s i. value_right (length u) u s i;
  end_right = λ asked s i. value_end u s;
}
lawful (Simplify m) bytes = record {
  IsItem = IsCommented m;
  last_place = length bytes;
  reads = answer-reads bytes m;
  text_right = λ asked s i. simplified_right m asked s i;
  end_right = λ asked s i e h. tt;
}
lawful CheckAll bytes = record {
  IsItem = IsTriple (length bytes);
  last_place = length bytes;
  reads = triple-reads bytes;
  text_right = λ asked x i. verdict_right _ x i;
  end_right = λ asked x i e h. tt;
}
lawful ShareAll bytes = record {
  IsItem = IsTriple (length bytes);
  last_place = length bytes;
  reads = triple-reads bytes;
  text_right = λ asked x i. sharing_right _ asked x i;
  end_right = λ asked x i e h. tt;
}
lawful (Trial seed count) bytes = record {
  IsItem = λ u. ⊤;
  last_place = 1;
  reads = λ place h. one-reads (λ u. ⊤) (Ok tt) tt place;
  text_right = λ asked u i t h. tt;
  end_right = λ asked u i e h. tt;
}
lawful (Restrict m b) bytes = record {
  IsItem = IsPair m;
  last_place = length bytes;
  reads = pair-reads bytes m;
  text_right = λ asked p i. restricted_right m asked b p i;
  end_right = λ asked p i. restrict_end m asked b p i;
}
lawful (Same m b) bytes = record {
  IsItem = IsTrio m;
  last_place = length bytes;
  reads = trio-reads bytes m;
  text_right = λ asked x i. same_right m asked b x i;
  end_right = λ asked x i. same_end m asked b x i;
}
lawful (Least m b) bytes = record {
  IsItem = IsTrio m;
  last_place = length bytes;
  reads = trio-reads bytes m;
  text_right = λ asked x i. least_right m asked.0 b asked.1 x i;
  end_right = λ asked x i. least_end m asked.0 b x i;
}
lawful (Pieces m) bytes = record {
  IsItem = IsCommented m;
  last_place = length bytes;
  reads = answer-reads bytes m;
  text_right = λ asked s i. pieces_right m s i;
  end_right = λ asked s i. pieces_end s;
}
