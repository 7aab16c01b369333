-- Problems whose rows are tightened at the start: answers and ends that an independent program gave.
use Rattle.model_rows.proofs.Words.{refl, ℕ, true, false, [], ◌∷◌, codes, ending, finished, Command, Solve, Writes, digits}

abbrev solve_in : ℕ → ℕ → ℕ → ℕ → Command
solve_in p c s n = Solve (record { polylib = false; simplify = false; certificate = false; budget = record { pivots = p; cuts = c; splits = s; nesting = n } })

abbrev polylib_in : ℕ → ℕ → ℕ → ℕ → Command
polylib_in p c s n = Solve (record { polylib = true; simplify = false; certificate = false; budget = record { pivots = p; cuts = c; splits = s; nesting = n } })

record StartRowsHold : Type 0 where
  constant_row : Writes (solve_in 1000000 100000 10000 200) (codes "((z) 1 0 1 0 -1 1 (#[0 -3]) ())") (codes "((z)\n()\n)\n" ∷ []) finished
  constant_row_holds : Writes (solve_in 1000000 100000 10000 200) (codes "((z) 1 1 1 0 -1 1 (#[0 3 0]) ())") (codes "((z)\n(list\n#[ 0 0]\n)\n)\n" ∷ []) finished
  odd_equation : Writes (polylib_in 1000000 100000 10000 200) (codes "0 2\n-1\n1 3\n0 2 -3\n") (codes "(()\n()\n)\n" ∷ []) finished
  odd_equation_rational : Writes (polylib_in 1000000 100000 10000 200) (codes "0 2\n-1\n1 3\n0 2 -3\nRational\n") (codes "(()\n(list\n#[ 3/2]\n)\n)\n" ∷ []) finished
  started_0 : Writes (solve_in 1000 1 100 100) (codes "((s) 1 0 3 0 -1 1 (#[-4 -14] #[6 7] #[-9 6]) ())") (codes "((s)\n()\n)\n" ∷ []) finished
  started_5 : Writes (solve_in 1000 100 100 100) (codes "((s) 2 2 1 0 -1 1 (#[-100000000000000000000 -300000000000000000000 148592858029881012601 -200000000000000000000 -100000000000000000000]) ())") (codes "((s)\n(if #[ -2 -1 1]\n(list\n#[ 0 0 0]\n#[ 0 0 0]\n)\n()\n)\n)\n" ∷ []) finished
  started_10 : Writes (solve_in 1000 100 100 100) (codes "((s) 2 1 3 0 -1 1 (#[-30 20 12 -10] #[-300000000000000000000 -200000000000000000000 75040827466532258419 -100000000000000000000] #[0 -6 2 -18]) ())") (codes "((s)\n(if #[ -1 1]\n(if #[ -1 0]\n(list\n#[ 0 0]\n#[ 0 0]\n)\n()\n)\n()\n)\n)\n" ∷ []) finished
  started_15 : Writes (solve_in 1000 100 100 100) (codes "((s) 3 0 3 0 -1 1 (#[0 0 1000000 -1564865] #[0 -2 0 3] #[0 -1 0 -2]) ())") (codes "((s)\n()\n)\n" ∷ []) finished
  started_20 : Writes (solve_in 1000 1 100 100) (codes "((s) 3 1 2 0 -1 1 (#[-200000000000000000000 -200000000000000000000 0 -45576069903813582868 100000000000000000000] #[-20 10 -10 2 30]) ())") (codes "((s)\n(if #[ 1 -1]\n(list\n#[ 0 0]\n#[ 0 0]\n#[ 0 0]\n)\n()\n)\n)\n" ∷ []) finished
  started_25 : Writes (solve_in 1000 100 1 2) (codes "((s) 1 2 3 0 -1 1 (#[6 7 0 9] #[-3 -3 3 3] #[30 29 10 -10]) ())") ([]) (ending 5 (codes "budget of splits 1"))
  started_30 : Writes (solve_in 1000 100 100 100) (codes "((s) 3 0 1 0 -1 1 (#[0 6 0 8]) ())") (codes "((s)\n(list\n#[ 0]\n#[ 0]\n#[ 0]\n)\n)\n" ∷ []) finished
  started_35 : Writes (solve_in 1000 100 1 2) (codes "((s) 3 1 1 0 -1 1 (#[-2 6 6 4 -6]) ())") (codes "((s)\n(if #[ -1 0]\n(list\n#[ 0 0]\n#[ 0 0]\n#[ 0 0]\n)\n(list\n#[ 0 0]\n#[ 0 0]\n#[ 1 0]\n)\n)\n)\n" ∷ []) finished
  started_40 : Writes (solve_in 1000 100 100 100) (codes "((s) 2 1 3 0 -1 1 (#[-1000000 -3000000 2889113 -2000000] #[-8 -4 -9 8] #[-8 8 -4 -8]) ())") (codes "((s)\n()\n)\n" ∷ []) finished
  started_45 : Writes (solve_in 1000 100 100 100) (codes "((s) 1 2 3 1 -1 1 (#[0 -156166655603333848879 200000000000000000000 -100000000000000000000] #[-6 9 -4 6] #[6 -2 0 2]) (#[-1 0 5]))") (codes "((s)\n(if #[ 2 -1 -2]\n(if #[ -2 3 4]\n(if #[ 0 1 -1]\n(list\n#[ 0 0 0]\n)\n(if #[ -1 2 1]\n(newparm 2 (div #[ 0 1 2] 3))\n()\n()\n)\n)\n()\n)\n()\n)\n)\n" ∷ []) finished
  started_50 : Writes (solve_in 1000 100 100 100) (codes "((s) 1 1 3 0 -1 1 (#[0 1 6] #[-3 16 0] #[1000000 1772561 -1000000]) ())") (codes "((s)\n(if #[ -1 1]\n(list\n#[ 0 0]\n)\n(if #[ -1 6]\n(list\n#[ 1 -1]\n)\n()\n)\n)\n)\n" ∷ []) finished
  started_55 : Writes (solve_in 1000 100 100 100) (codes "((s) 3 1 2 0 -1 1 (#[-18 -18 12 4 -6] #[0 2 0 -5 0]) ())") (codes "((s)\n(newparm 1 (div #[ 1 1] 2))\n(if #[ -1 2 -1]\n(list\n#[ 0 0 0]\n#[ 0 0 3]\n#[ 1 -1 5]\n)\n(list\n#[ 0 0 0]\n#[ 0 0 3]\n#[ 1 -1 5]\n)\n)\n)\n" ∷ []) finished
  started_60 : Writes (solve_in 1000 100 100 100) (codes "((s) 3 1 1 0 -1 1 (#[12 -18 18 -3 6]) ())") (codes "((s)\n(if #[ 1 -1]\n(list\n#[ 0 0]\n#[ 0 0]\n#[ 0 0]\n)\n(newparm 1 (div #[ 1 2] 3))\n(list\n#[ 0 0 0]\n#[ 0 0 0]\n#[ 0 -1 1]\n)\n)\n)\n" ∷ []) finished
  started_65 : Writes (solve_in 1000 100 1 2) (codes "((s) 2 1 2 1 -1 1 (#[3 0 -5 3] #[300000000000000000000 -200000000000000000000 81155021669929313735 -200000000000000000000]) (#[-3 8]))") (codes "((s)\n(if #[ 1 -2]\n(newparm 1 (div #[ 1 0] 3))\n(list\n#[ 1 -1 0]\n#[ 0 0 0]\n)\n(list\n#[ -1 2]\n#[ 0 0]\n)\n)\n)\n" ∷ []) finished
  started_70 : Writes (solve_in 1000 100 100 100) (codes "((s) 2 2 1 0 -1 1 (#[9 6 -4 3 9]) ())") (codes "((s)\n(if #[ 1 3 -2]\n(list\n#[ 0 0 0]\n#[ 0 0 0]\n)\n(newparm 2 (div #[ 1 1 0] 2))\n(if #[ -1 -1 2 0]\n(list\n#[ 0 0 0 0]\n#[ 0 -1 -1 1]\n)\n(list\n#[ 0 0 0 0]\n#[ 0 -1 -1 1]\n)\n)\n)\n)\n" ∷ []) finished

start_rows_hold : StartRowsHold
unfolding digits
start_rows_hold = record {
  constant_row = refl;
  constant_row_holds = refl;
  odd_equation = refl;
  odd_equation_rational = refl;
  started_0 = refl;
  started_5 = refl;
  started_10 = refl;
  started_15 = refl;
  started_20 = refl;
  started_25 = refl;
  started_30 = refl;
  started_35 = refl;
  started_40 = refl;
  started_45 = refl;
  started_50 = refl;
  started_55 = refl;
  started_60 = refl;
  started_65 = refl;
  started_70 = refl;
}
