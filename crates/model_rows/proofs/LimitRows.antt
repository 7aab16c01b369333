-- Rows at the limits of unknowns, parameters, rows, columns and components, which an independent program gave.
use Rattle.model_rows.proofs.Words.{refl, true, false, [], ◌∷◌, codes, standard_budget, ending, finished, Command, Solve, Eval, Simplify, Writes, digits}

abbrev solve : Command
solve = Solve (record { polylib = false; simplify = false; certificate = false; budget = standard_budget })

abbrev polylib : Command
polylib = Solve (record { polylib = true; simplify = false; certificate = false; budget = standard_budget })

record LimitRowsHold : Type 0 where
  unknowns_128 : Writes solve (codes "((u) 128 0 0 0 -1 1 () ())") (codes "((u)\n(list\n#[ 0]\n#[ 0]\n#[ 0]\n#[ 0]\n#[ 0]\n#[ 0]\n#[ 0]\n#[ 0]\n#[ 0]\n#[ 0]\n#[ 0]\n#[ 0]\n#[ 0]\n#[ 0]\n#[ 0]\n#[ 0]\n#[ 0]\n#[ 0]\n#[ 0]\n#[ 0]\n#[ 0]\n#[ 0]\n#[ 0]\n#[ 0]\n#[ 0]\n#[ 0]\n#[ 0]\n#[ 0]\n#[ 0]\n#[ 0]\n#[ 0]\n#[ 0]\n#[ 0]\n#[ 0]\n#[ 0]\n#[ 0]\n#[ 0]\n#[ 0]\n#[ 0]\n#[ 0]\n#[ 0]\n#[ 0]\n#[ 0]\n#[ 0]\n#[ 0]\n#[ 0]\n#[ 0]\n#[ 0]\n#[ 0]\n#[ 0]\n#[ 0]\n#[ 0]\n#[ 0]\n#[ 0]\n#[ 0]\n#[ 0]\n#[ 0]\n#[ 0]\n#[ 0]\n#[ 0]\n#[ 0]\n#[ 0]\n#[ 0]\n#[ 0]\n#[ 0]\n#[ 0]\n#[ 0]\n#[ 0]\n#[ 0]\n#[ 0]\n#[ 0]\n#[ 0]\n#[ 0]\n#[ 0]\n#[ 0]\n#[ 0]\n#[ 0]\n#[ 0]\n#[ 0]\n#[ 0]\n#[ 0]\n#[ 0]\n#[ 0]\n#[ 0]\n#[ 0]\n#[ 0]\n#[ 0]\n#[ 0]\n#[ 0]\n#[ 0]\n#[ 0]\n#[ 0]\n#[ 0]\n#[ 0]\n#[ 0]\n#[ 0]\n#[ 0]\n#[ 0]\n#[ 0]\n#[ 0]\n#[ 0]\n#[ 0]\n#[ 0]\n#[ 0]\n#[ 0]\n#[ 0]\n#[ 0]\n#[ 0]\n#[ 0]\n#[ 0]\n#[ 0]\n#[ 0]\n#[ 0]\n#[ 0]\n#[ 0]\n#[ 0]\n#[ 0]\n#[ 0]\n#[ 0]\n#[ 0]\n#[ 0]\n#[ 0]\n#[ 0]\n#[ 0]\n#[ 0]\n#[ 0]\n#[ 0]\n#[ 0]\n)\n)\n" ∷ []) finished
  unknowns_0 : Writes solve (codes "((u) 0 0 0 0 -1 1 () ())") ([]) (ending 9 (codes "limit of unknowns 0"))
  parameters_48 : Writes solve (codes "((u) 1 48 1 0 -1 1 (#[1 0 0 0 0 0 0 0 0 0 0 0 0 0 0 0 0 0 0 0 0 0 0 0 0 0 0 0 0 0 0 0 0 0 0 0 0 0 0 0 0 0 0 0 0 0 0 0 0 0]) ())") (codes "((u)\n(list\n#[ 0 0 0 0 0 0 0 0 0 0 0 0 0 0 0 0 0 0 0 0 0 0 0 0 0 0 0 0 0 0 0 0 0 0 0 0 0 0 0 0 0 0 0 0 0 0 0 0 0]\n)\n)\n" ∷ []) finished
  parameters_49 : Writes solve (codes "((u) 1 49 0 0 -1 1 () ())") ([]) (ending 9 (codes "limit of parameters 49"))
  rows_1025 : Writes solve (codes "((u) 1 0 1025 0 -1 1 (x") ([]) (ending 2 (codes "syntax at byte 22"))
  rows_4096 : Writes solve (codes "((u) 1 0 4096 0 -1 1 (x") ([]) (ending 2 (codes "syntax at byte 22"))
  rows_4097 : Writes solve (codes "((u) 1 0 4097 0 -1 1 (x") ([]) (ending 9 (codes "limit of rows 4097"))
  context_rows_257 : Writes solve (codes "((u) 1 0 0 257 -1 1 () ())") ([]) (ending 9 (codes "limit of context rows 257"))
  components_128 : Writes (Simplify 0) (codes "((e) (list #[0] #[0] #[0] #[0] #[0] #[0] #[0] #[0] #[0] #[0] #[0] #[0] #[0] #[0] #[0] #[0] #[0] #[0] #[0] #[0] #[0] #[0] #[0] #[0] #[0] #[0] #[0] #[0] #[0] #[0] #[0] #[0] #[0] #[0] #[0] #[0] #[0] #[0] #[0] #[0] #[0] #[0] #[0] #[0] #[0] #[0] #[0] #[0] #[0] #[0] #[0] #[0] #[0] #[0] #[0] #[0] #[0] #[0] #[0] #[0] #[0] #[0] #[0] #[0] #[0] #[0] #[0] #[0] #[0] #[0] #[0] #[0] #[0] #[0] #[0] #[0] #[0] #[0] #[0] #[0] #[0] #[0] #[0] #[0] #[0] #[0] #[0] #[0] #[0] #[0] #[0] #[0] #[0] #[0] #[0] #[0] #[0] #[0] #[0] #[0] #[0] #[0] #[0] #[0] #[0] #[0] #[0] #[0] #[0] #[0] #[0] #[0] #[0] #[0] #[0] #[0] #[0] #[0] #[0] #[0] #[0] #[0] #[0] #[0] #[0] #[0] #[0] #[0]))") (codes "((e)\n(list\n#[ 0]\n#[ 0]\n#[ 0]\n#[ 0]\n#[ 0]\n#[ 0]\n#[ 0]\n#[ 0]\n#[ 0]\n#[ 0]\n#[ 0]\n#[ 0]\n#[ 0]\n#[ 0]\n#[ 0]\n#[ 0]\n#[ 0]\n#[ 0]\n#[ 0]\n#[ 0]\n#[ 0]\n#[ 0]\n#[ 0]\n#[ 0]\n#[ 0]\n#[ 0]\n#[ 0]\n#[ 0]\n#[ 0]\n#[ 0]\n#[ 0]\n#[ 0]\n#[ 0]\n#[ 0]\n#[ 0]\n#[ 0]\n#[ 0]\n#[ 0]\n#[ 0]\n#[ 0]\n#[ 0]\n#[ 0]\n#[ 0]\n#[ 0]\n#[ 0]\n#[ 0]\n#[ 0]\n#[ 0]\n#[ 0]\n#[ 0]\n#[ 0]\n#[ 0]\n#[ 0]\n#[ 0]\n#[ 0]\n#[ 0]\n#[ 0]\n#[ 0]\n#[ 0]\n#[ 0]\n#[ 0]\n#[ 0]\n#[ 0]\n#[ 0]\n#[ 0]\n#[ 0]\n#[ 0]\n#[ 0]\n#[ 0]\n#[ 0]\n#[ 0]\n#[ 0]\n#[ 0]\n#[ 0]\n#[ 0]\n#[ 0]\n#[ 0]\n#[ 0]\n#[ 0]\n#[ 0]\n#[ 0]\n#[ 0]\n#[ 0]\n#[ 0]\n#[ 0]\n#[ 0]\n#[ 0]\n#[ 0]\n#[ 0]\n#[ 0]\n#[ 0]\n#[ 0]\n#[ 0]\n#[ 0]\n#[ 0]\n#[ 0]\n#[ 0]\n#[ 0]\n#[ 0]\n#[ 0]\n#[ 0]\n#[ 0]\n#[ 0]\n#[ 0]\n#[ 0]\n#[ 0]\n#[ 0]\n#[ 0]\n#[ 0]\n#[ 0]\n#[ 0]\n#[ 0]\n#[ 0]\n#[ 0]\n#[ 0]\n#[ 0]\n#[ 0]\n#[ 0]\n#[ 0]\n#[ 0]\n#[ 0]\n#[ 0]\n#[ 0]\n#[ 0]\n#[ 0]\n#[ 0]\n#[ 0]\n#[ 0]\n)\n)\n" ∷ []) finished
  components_129 : Writes (Eval []) (codes "((e) (list #[0] #[0] #[0] #[0] #[0] #[0] #[0] #[0] #[0] #[0] #[0] #[0] #[0] #[0] #[0] #[0] #[0] #[0] #[0] #[0] #[0] #[0] #[0] #[0] #[0] #[0] #[0] #[0] #[0] #[0] #[0] #[0] #[0] #[0] #[0] #[0] #[0] #[0] #[0] #[0] #[0] #[0] #[0] #[0] #[0] #[0] #[0] #[0] #[0] #[0] #[0] #[0] #[0] #[0] #[0] #[0] #[0] #[0] #[0] #[0] #[0] #[0] #[0] #[0] #[0] #[0] #[0] #[0] #[0] #[0] #[0] #[0] #[0] #[0] #[0] #[0] #[0] #[0] #[0] #[0] #[0] #[0] #[0] #[0] #[0] #[0] #[0] #[0] #[0] #[0] #[0] #[0] #[0] #[0] #[0] #[0] #[0] #[0] #[0] #[0] #[0] #[0] #[0] #[0] #[0] #[0] #[0] #[0] #[0] #[0] #[0] #[0] #[0] #[0] #[0] #[0] #[0] #[0] #[0] #[0] #[0] #[0] #[0] #[0] #[0] #[0] #[0] #[0] #[0]))") ([]) (ending 9 (codes "limit of components 129"))
  context_columns_50 : Writes polylib (codes "0 50\n-1\n0 51\n") (codes "(()\n(list\n#[ 0 0 0 0 0 0 0 0 0 0 0 0 0 0 0 0 0 0 0 0 0 0 0 0 0 0 0 0 0 0 0 0 0 0 0 0 0 0 0 0 0 0 0 0 0 0 0 0 0]\n)\n)\n" ∷ []) finished
  context_columns_51 : Writes polylib (codes "0 51\n-1\n0 53\n") ([]) (ending 9 (codes "limit of context columns 51"))
  context_columns_1 : Writes polylib (codes "0 1\n-1\n0 3\n") ([]) (ending 9 (codes "limit of context columns 1"))
  columns_130 : Writes polylib (codes "0 2\n-1\n1 130\n") ([]) (ending 2 (codes "syntax at byte 13"))
  columns_131 : Writes polylib (codes "0 2\n-1\n0 131\n") ([]) (ending 9 (codes "limit of columns 131"))
  columns_178 : Writes polylib (codes "0 50\n-1\n1 178\n") ([]) (ending 2 (codes "syntax at byte 14"))
  columns_179 : Writes polylib (codes "0 50\n-1\n0 179\n") ([]) (ending 9 (codes "limit of columns 179"))
  columns_50 : Writes polylib (codes "0 50\n-1\n0 50\n") ([]) (ending 9 (codes "limit of columns 50"))
  matrix_rows_4096 : Writes polylib (codes "0 2\n-1\n4096 3\n") ([]) (ending 2 (codes "syntax at byte 14"))
  matrix_rows_4097 : Writes polylib (codes "0 2\n-1\n4097 3\n") ([]) (ending 9 (codes "limit of rows 4097"))
  equalities_129 : Writes polylib (codes "129 2\n0 0\n0 0\n0 0\n0 0\n0 0\n0 0\n0 0\n0 0\n0 0\n0 0\n0 0\n0 0\n0 0\n0 0\n0 0\n0 0\n0 0\n0 0\n0 0\n0 0\n0 0\n0 0\n0 0\n0 0\n0 0\n0 0\n0 0\n0 0\n0 0\n0 0\n0 0\n0 0\n0 0\n0 0\n0 0\n0 0\n0 0\n0 0\n0 0\n0 0\n0 0\n0 0\n0 0\n0 0\n0 0\n0 0\n0 0\n0 0\n0 0\n0 0\n0 0\n0 0\n0 0\n0 0\n0 0\n0 0\n0 0\n0 0\n0 0\n0 0\n0 0\n0 0\n0 0\n0 0\n0 0\n0 0\n0 0\n0 0\n0 0\n0 0\n0 0\n0 0\n0 0\n0 0\n0 0\n0 0\n0 0\n0 0\n0 0\n0 0\n0 0\n0 0\n0 0\n0 0\n0 0\n0 0\n0 0\n0 0\n0 0\n0 0\n0 0\n0 0\n0 0\n0 0\n0 0\n0 0\n0 0\n0 0\n0 0\n0 0\n0 0\n0 0\n0 0\n0 0\n0 0\n0 0\n0 0\n0 0\n0 0\n0 0\n0 0\n0 0\n0 0\n0 0\n0 0\n0 0\n0 0\n0 0\n0 0\n0 0\n0 0\n0 0\n0 0\n0 0\n0 0\n0 0\n0 0\n0 0\n0 0\n") ([]) (ending 9 (codes "limit of context rows 258"))
  signed_parameters : Writes polylib (codes "0 2\n-1\n1 3\n1 1 -3\nUrs_parms\n") ([]) (ending 3 (codes "unsupported option Urs_parms"))
  signed_unknowns : Writes polylib (codes "0 2\n-1\n1 3\n1 1 -3\nUrs_unknowns\n") ([]) (ending 3 (codes "unsupported option Urs_unknowns"))
  dual : Writes polylib (codes "0 2\n-1\n1 3\n1 1 -3\nDual\n") ([]) (ending 3 (codes "unsupported option Dual"))
  nested_201 : Writes (Simplify 0) (codes "((d) (if #[0] (if #[0] (if #[0] (if #[0] (if #[0] (if #[0] (if #[0] (if #[0] (if #[0] (if #[0] (if #[0] (if #[0] (if #[0] (if #[0] (if #[0] (if #[0] (if #[0] (if #[0] (if #[0] (if #[0] (if #[0] (if #[0] (if #[0] (if #[0] (if #[0] (if #[0] (if #[0] (if #[0] (if #[0] (if #[0] (if #[0] (if #[0] (if #[0] (if #[0] (if #[0] (if #[0] (if #[0] (if #[0] (if #[0] (if #[0] (if #[0] (if #[0] (if #[0] (if #[0] (if #[0] (if #[0] (if #[0] (if #[0] (if #[0] (if #[0] (if #[0] (if #[0] (if #[0] (if #[0] (if #[0] (if #[0] (if #[0] (if #[0] (if #[0] (if #[0] (if #[0] (if #[0] (if #[0] (if #[0] (if #[0] (if #[0] (if #[0] (if #[0] (if #[0] (if #[0] (if #[0] (if #[0] (if #[0] (if #[0] (if #[0] (if #[0] (if #[0] (if #[0] (if #[0] (if #[0] (if #[0] (if #[0] (if #[0] (if #[0] (if #[0] (if #[0] (if #[0] (if #[0] (if #[0] (if #[0] (if #[0] (if #[0] (if #[0] (if #[0] (if #[0] (if #[0] (if #[0] (if #[0] (if #[0] (if #[0] (if #[0] (if #[0] (if #[0] (if #[0] (if #[0] (if #[0] (if #[0] (if #[0] (if #[0] (if #[0] (if #[0] (if #[0] (if #[0] (if #[0] (if #[0] (if #[0] (if #[0] (if #[0] (if #[0] (if #[0] (if #[0] (if #[0] (if #[0] (if #[0] (if #[0] (if #[0] (if #[0] (if #[0] (if #[0] (if #[0] (if #[0] (if #[0] (if #[0] (if #[0] (if #[0] (if #[0] (if #[0] (if #[0] (if #[0] (if #[0] (if #[0] (if #[0] (if #[0] (if #[0] (if #[0] (if #[0] (if #[0] (if #[0] (if #[0] (if #[0] (if #[0] (if #[0] (if #[0] (if #[0] (if #[0] (if #[0] (if #[0] (if #[0] (if #[0] (if #[0] (if #[0] (if #[0] (if #[0] (if #[0] (if #[0] (if #[0] (if #[0] (if #[0] (if #[0] (if #[0] (if #[0] (if #[0] (if #[0] (if #[0] (if #[0] (if #[0] (if #[0] (if #[0] (if #[0] (if #[0] (if #[0] (if #[0] (if #[0] (if #[0] (if #[0] (if #[0] (if #[0] (if #[0] (if #[0] (if #[0] (if #[0] (if #[0] (if #[0] (if #[0] (if #[0] (if #[0] (if #[0] (if #[0] (if #[0] (if #[0] (if #[0] ") ([]) (ending 9 (codes "limit of nesting 200"))

limit_rows_hold : LimitRowsHold
unfolding digits
limit_rows_hold = record {
  unknowns_128 = refl;
  unknowns_0 = refl;
  parameters_48 = refl;
  parameters_49 = refl;
  rows_1025 = refl;
  rows_4096 = refl;
  rows_4097 = refl;
  context_rows_257 = refl;
  components_128 = refl;
  components_129 = refl;
  context_columns_50 = refl;
  context_columns_51 = refl;
  context_columns_1 = refl;
  columns_130 = refl;
  columns_131 = refl;
  columns_178 = refl;
  columns_179 = refl;
  columns_50 = refl;
  matrix_rows_4096 = refl;
  matrix_rows_4097 = refl;
  equalities_129 = refl;
  signed_parameters = refl;
  signed_unknowns = refl;
  dual = refl;
  nested_201 = refl;
}
