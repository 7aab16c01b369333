-- Random problems, whose answers an independent program in another language gave (outside/rows.py).
use Rattle.model_rows.proofs.Words.{refl, ℕ, false, [], ◌∷◌, codes, ending, finished, Command, Solve, Writes, digits}

abbrev solve_in : ℕ → ℕ → ℕ → ℕ → Command
solve_in p c s n = Solve (record { polylib = false; simplify = false; certificate = false; budget = record { pivots = p; cuts = c; splits = s; nesting = n } })

record WideRowsHold : Type 0 where
  wide_0 : Writes (solve_in 1000 100 100 2) (codes "((q) 3 0 2 0 -1 1 (#[-3 4 1 2] #[2 -4 -4 -7]) ())") (codes "((q)\n()\n)\n" ∷ []) finished
  wide_4 : Writes (solve_in 1000 2 3 4) (codes "((q) 2 0 1 0 -1 1 (#[0 -3 -10]) ())") (codes "((q)\n()\n)\n" ∷ []) finished
  wide_8 : Writes (solve_in 1000 100 100 100) (codes "((q) 2 2 1 0 -1 1 (#[3000000000000000000000000000001 3999999999999999999999999999998 0 -999999999999999999999999999999 -3999999999999999999999999999999]) ())") ([]) (ending 4 (codes "overflow"))
  wide_12 : Writes (solve_in 8 100 100 100) (codes "((q) 1 1 1 0 -1 1 (#[1 0 -3]) ())") (codes "((q)\n(if #[ -1 0]\n(list\n#[ 0 0]\n)\n(list\n#[ 3 0]\n)\n)\n)\n" ∷ []) finished
  wide_16 : Writes (solve_in 1000 100 100 100) (codes "((q) 1 0 2 0 -1 0 (#[10000000000000000000000000000000000001 9] #[-2 -3]) ())") (codes "((q)\n()\n)\n" ∷ []) finished
  wide_20 : Writes (solve_in 1000 1 100 100) (codes "((q) 3 1 2 0 -1 0 (#[-1 -1 1 -4 0] #[-1 -1 -4 2 -2]) ())") (codes "((q)\n()\n)\n" ∷ []) finished
  wide_24 : Writes (solve_in 1000 1 100 100) (codes "((q) 3 1 1 0 -1 0 (#[0 0 -1 -10 -3]) ())") (codes "((q)\n()\n)\n" ∷ []) finished
  wide_28 : Writes (solve_in 1000 100 100 100) (codes "((q) 3 0 2 0 -1 1 (#[999999999999999999999999999999 3999999999999999999999999999999 -4000000000000000000000000000000 6] #[-4000000000000000000000000000000 -3000000000000000000000000000002 -2000000000000000000000000000001 4]) ())") (codes "((q)\n(list\n#[ 0]\n#[ 0]\n#[ 0]\n)\n)\n" ∷ []) finished
  wide_32 : Writes (solve_in 1000 1 100 100) (codes "((q) 2 1 2 1 -1 1 (#[0 -4 -9 2] #[4 2 0 1]) (#[-3 5]))") (codes "((q)\n()\n)\n" ∷ []) finished
  wide_36 : Writes (solve_in 1000 100 100 100) (codes "((q) 3 1 2 0 -1 1 (#[-40000000000000000000000000000000000002 29999999999999999999999999999999999999 -20000000000000000000000000000000000001 2 40000000000000000000000000000000000002] #[-39999999999999999999999999999999999998 -2 -40000000000000000000000000000000000001 -8 -40000000000000000000000000000000000000]) ())") (codes "((q)\n()\n)\n" ∷ []) finished
  wide_40 : Writes (solve_in 1000 1 100 100) (codes "((q) 3 1 3 1 -1 1 (#[-3 -4 0 1 -1] #[-1 -4 2 -3 -3] #[-1 -1 -1 5 3]) (#[-1 0]))") ([]) (ending 5 (codes "budget of cuts 1"))
  wide_44 : Writes (solve_in 1000 100 100 100) (codes "((q) 1 1 1 0 -1 1 (#[-4 7 -4]) ())") (codes "((q)\n(if #[ -1 1]\n(list\n#[ 0 0]\n)\n()\n)\n)\n" ∷ []) finished
  wide_48 : Writes (solve_in 1000 2 3 4) (codes "((q) 2 1 1 1 -1 1 (#[1 4 4 -3]) (#[3 -3]))") ([]) (ending 5 (codes "budget of cuts 2"))
  wide_52 : Writes (solve_in 1000 100 100 100) (codes "((q) 3 1 3 0 -1 1 (#[-4000000000000000001 999999999999999999 2999999999999999999 -7 -1000000000000000002] #[-2999999999999999998 2 2000000000000000001 3 -999999999999999999] #[3999999999999999999 -3000000000000000002 -1000000000000000001 -3 3000000000000000002]) ())") ([]) (ending 4 (codes "overflow"))
  wide_55 : Writes (solve_in 1000 100 100 2) (codes "((q) 3 2 3 0 -1 1 (#[1 0 2 2 2 4] #[2 4 4 0 0 -2] #[0 3 1 0 1 -4]) ())") ([]) (ending 5 (codes "budget of nesting 2"))
  wide_56 : Writes (solve_in 1000 100 100 100) (codes "((q) 2 1 2 0 -1 0 (#[-2 1 -5 0] #[-3 0 0 -4]) ())") (codes "((q)\n(if #[ -1 0]\n(list\n#[ 0 0]\n#[ 0 5]\n)\n()\n)\n)\n" ∷ []) finished

wide_rows_hold : WideRowsHold
unfolding digits
wide_rows_hold = record {
  wide_0 = refl;
  wide_4 = refl;
  wide_8 = refl;
  wide_12 = refl;
  wide_16 = refl;
  wide_20 = refl;
  wide_24 = refl;
  wide_28 = refl;
  wide_32 = refl;
  wide_36 = refl;
  wide_40 = refl;
  wide_44 = refl;
  wide_48 = refl;
  wide_52 = refl;
  wide_55 = refl;
  wide_56 = refl;
}
