-- What is known of the lesser of two answers.
use Rattle.least.proofs.Words.{◌≡◌, arith, ℕ, ◌≤◌, List, ℤ, Work, Budget, start_work, Made, least, answer_of, answer_nesting}
use Rattle.pip_model.specs.Tree as model
use Rattle.walk_laws.proofs.Depths.{least-nested}
use Rattle.quast.specs.declared.answer.Answer.{Answer}
use Rattle.quast.specs.declared.answer.Answer.TheVariants as code

-- the lesser of two answers is nested no deeper than the budget
pub nested_in : (m : ℕ) (rows : List (List ℤ)) (a b : model.Answer) (k : Budget) (w : Work) (s : Answer) → least m rows a b (start_work k) ≡ Made (answer_of s) w → answer_nesting s ≤ k.nesting
nested_in m rows a b k w code.Void is = omega arith
nested_in m rows a b k w (code.Tree q) is = least-nested m rows a b q.tree k w is
