use Rattle.model_rows.proofs.Words.{refl, ◌≡◌, ℕ, pos, negsuc, true, false, List, [], ◌∷◌, ◌++◌, ◌-◌, codes, Option, Some, Result, Ok, length, Budget, ending, finished, Command, Solve, Eval, Simplify, CheckAll, Trial, Writes, digits}
use Rattle.pip_model.specs.Tree.{Answer, Solved, Bottom, Leaf, If, NewParm}
use Rattle.pip_model.specs.TreeText.{spell, read_answer}
use Rattle.pip_model.specs.Certificate.{Certificate, read_certificate, spell_certificate}
use Rattle.pip_model.specs.Reading.{Fault}

-- the default budgets, but for these
abbrev budget : ℕ → ℕ → ℕ → ℕ → Budget
budget p c s n = record { pivots = p; cuts = c; splits = s; nesting = n }

abbrev standard : Budget
standard = budget 1000000 100000 10000 200

abbrev solve : Command
solve = Solve (record { polylib = false; simplify = false; certificate = false; budget = standard })

abbrev solve_simplify : Command
solve_simplify = Solve (record { polylib = false; simplify = true; certificate = false; budget = standard })

abbrev solve_in : Budget → Command
solve_in b = Solve (record { polylib = false; simplify = false; certificate = false; budget = b })

abbrev polylib : Command
polylib = Solve (record { polylib = true; simplify = false; certificate = false; budget = standard })

-- the text of a certificate that is read
abbrev respelled : Result (Option (Certificate × ℕ)) Fault → List ℕ
respelled (Ok (Some c)) = spell_certificate c.0
respelled _ = []

-- a tree with each kind of node
abbrev example : Answer
example = Solved (If (negsuc 0 ∷ pos 0 ∷ []) (Leaf (record { den = pos 6; form = pos 3 ∷ pos 4 ∷ [] } ∷ [])) (NewParm (pos 1 ∷ pos 0 ∷ []) (pos 2) (If (negsuc 0 ∷ pos 2 ∷ pos 0 ∷ []) Bottom (Leaf (record { den = pos 1; form = pos 1 ∷ negsuc 0 ∷ pos 0 ∷ [] } ∷ [])))))

record RowsHold : Type 0 where
  half_simplified : Writes solve_simplify (codes "((c) 1 1 1 0 -1 1 (#[2 0 -1]) ())") (codes "((c)\n(if #[ -1 0]\n(list\n#[ 0 0]\n)\n(newparm 1 (div #[ 1 0] 2))\n(list\n#[ 1 -1 0]\n)\n)\n)\n" ∷ []) finished
  literal_too_wide : Writes solve (codes "((w) 1 0 1 0 -1 1 (#[170141183460469231731687303715884105728 -3]) ())") ([]) (ending 9 (codes "number too wide at byte 21"))
  big_parameter : Writes solve (codes "((a) 1 0 1 0 0 1 (#[1 -3]) ())") ([]) (ending 3 (codes "unsupported big parameter 0"))
  maximize : Writes polylib (codes "0 2\n-1\n1 3\n1 1 -3\nMaximize\n") ([]) (ending 3 (codes "unsupported option Maximize"))
  value_at_5 : Writes (Eval (pos 5 ∷ [])) (codes "((c)\n(if #[ -1 0]\n(list\n#[ 0 0]\n)\n(newparm 1 (div #[ 1 0] 2))\n(if #[ -1 2 0]\n(list\n#[ 1 -1 0]\n)\n(list\n#[ 1 -1 0]\n)\n)\n)\n)\n") (codes "((c)\n(list\n#[ 3]\n)\n)\n" ∷ []) finished
  value_too_wide : Writes (Eval (pos 170141183460469231731687303715884105727 ∷ [])) (codes "((e)(list#[2 0]))") ([]) (ending 4 (codes "overflow"))
  no_trial : Writes (Trial 7 0) (codes "") (codes "problems 0 lists 0 bottoms 0 quotients 0 refused 0\n" ∷ []) finished
  rational_check : Writes CheckAll (codes "((c) 1 1 1 0 -1 0 (#[2 0 -1]) ())((c)\n(if #[ -1 0]\n(list\n#[ 0 0]\n)\n(list\n#[ 1/2 0]\n)\n)\n)\n") ([]) (ending 3 (codes "unsupported rational certificate"))
  no_component : Writes (Eval []) (codes "((e) (list))") ([]) (ending 2 (codes "syntax at byte 10"))
  denominator_0 : Writes (Simplify 0) (codes "((e) (list #[1/0]))") ([]) (ending 2 (codes "syntax at byte 13"))
  fraction_reduced : Writes (Simplify 1) (codes "((e) (list #[4/6 -1/2]))") (codes "((e)\n(list\n#[ 2/3 -1/2]\n)\n)\n" ∷ []) finished
  common_denominator_wide : Writes (Simplify 1) (codes "((e) (list #[1/170141183460469231731687303715884105727 1/2]))") ([]) (ending 9 (codes "number too wide at byte 11"))
  fraction_in_if : Writes (Simplify 1) (codes "((e) (if #[1/2 0] () ()))") ([]) (ending 2 (codes "syntax at byte 11"))
  wrong_scope_number : Writes (Simplify 1) (codes "((e) (newparm 2 (div #[1 0] 2)) ())") ([]) (ending 2 (codes "syntax at byte 14"))
  divisor_0 : Writes (Simplify 1) (codes "((e) (newparm 1 (div #[1 0] 0)) ())") ([]) (ending 2 (codes "syntax at byte 28"))
  void_echo : Writes (Simplify 3) (codes "((e)void)") (codes "((e)\nvoid\n)\n" ∷ []) finished
  limit_rows : Writes solve (codes "((u) 1 0 -1 0 -1 1 () ())") ([]) (ending 9 (codes "limit of rows -1"))
  matrix_comment : Writes polylib (codes "# context\n0 2 # none\n-1\n# one row\n1 3\n1 1 -3\n") (codes "(()\n(list\n#[ 3]\n)\n)\n" ∷ []) finished
  matrix_syntax : Writes polylib (codes "0 2\n-1\n1 3\n2 1 -3\n") ([]) (ending 2 (codes "syntax at byte 11"))
  matrix_end : Writes polylib (codes "0 2\n-1\n1 3\n1 1") ([]) (ending 2 (codes "syntax at byte 14"))
  matrix_word : Writes polylib (codes "0 2\n-1\n0 3\nrational\n") ([]) (ending 2 (codes "syntax at byte 11"))
  matrix_columns : Writes polylib (codes "0 2\n-1\n1 2\n") ([]) (ending 9 (codes "limit of columns 2"))
  certificate_text : respelled (read_certificate (codes "(certificate 1 void (((2 1 1) (1 2 1 3 2))))") 0) ≡ codes "(certificate 1 void\n(\n((2 1 1)(1 2 1 3 2))\n)\n)\n"
  certificate_of_no_vector : respelled (read_certificate (codes "x(certificate 1 #[] (() () ((1 1 1 2 1))))") 0) ≡ codes "(certificate 1 #[]\n(\n()\n()\n((1 1 1 2 1))\n)\n)\n"
  -- an answer that is spelled is said again, whatever follows; the place after it stands before the last newline
  answer_again : read_answer (spell (codes "(c)") example ++ codes "more") 0 1 ≡ Ok (Some (record { comment = codes "(c)"; answer = example }, length (spell (codes "(c)") example) - 1))

rows_hold : RowsHold
unfolding digits
rows_hold = record {
  half_simplified = refl;
  literal_too_wide = refl;
  big_parameter = refl;
  maximize = refl;
  value_at_5 = refl;
  value_too_wide = refl;
  no_trial = refl;
  rational_check = refl;
  no_component = refl;
  denominator_0 = refl;
  fraction_reduced = refl;
  common_denominator_wide = refl;
  fraction_in_if = refl;
  wrong_scope_number = refl;
  divisor_0 = refl;
  void_echo = refl;
  limit_rows = refl;
  matrix_comment = refl;
  matrix_syntax = refl;
  matrix_end = refl;
  matrix_word = refl;
  matrix_columns = refl;
  certificate_text = refl;
  certificate_of_no_vector = refl;
  answer_again = refl;
}
