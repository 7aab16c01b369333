-- Random problems, whose answers an independent program in another language gave (outside/rows.py).
use Rattle.model_rows.proofs.Words.{refl, ℕ, false, [], ◌∷◌, codes, ending, finished, Command, Solve, Writes, digits}

abbrev solve_in : ℕ → ℕ → ℕ → ℕ → Command
solve_in p c s n = Solve (record { polylib = false; simplify = false; certificate = false; budget = record { pivots = p; cuts = c; splits = s; nesting = n } })

record RandomRowsHold : Type 0 where
  random_0 : Writes (solve_in 1000 100 100 100) (codes "((q) 2 2 2 1 -1 1 (#[-2 4 5 -2 -3] #[3 0 -6 -3 4]) (#[3 2 4]))") (codes "((q)\n(if #[ -2 -3 5]\n(if #[ -12 -1 3]\n(newparm 2 (div #[ 0 1 0] 3))\n(if #[ 0 -1 3 0]\n(list\n#[ 1 -1 -1 2]\n#[ 0 0 0 0]\n)\n(list\n#[ 1 -1 -1 2]\n#[ 0 0 0 0]\n)\n)\n(newparm 2 (div #[ 0 1 0] 3))\n(if #[ 0 -1 3 0]\n(newparm 3 (div #[ 0 11 0 3] 12))\n(list\n#[ 1 -1 -1 0 2]\n#[ 1 1 0 -1 0]\n)\n(newparm 3 (div #[ 0 3 2 1] 4))\n(list\n#[ 1 -1 -1 0 2]\n#[ 1 1 0 -1 0]\n)\n)\n)\n(if #[ -3 4 -6]\n(newparm 2 (div #[ 2 1 1] 4))\n(if #[ -2 -1 4 -1]\n(list\n#[ 0 0 0 0]\n#[ 1 1 -1 -1]\n)\n(list\n#[ 0 0 0 0]\n#[ 1 1 -1 -1]\n)\n)\n(newparm 2 (div #[ 0 1 0] 3))\n(if #[ 0 -1 3 0]\n(newparm 3 (div #[ 0 11 0 3] 12))\n(if #[ 0 -11 0 12 -3]\n(list\n#[ 1 -1 -1 0 2]\n#[ 1 1 0 -1 0]\n)\n(list\n#[ 1 -1 -1 0 2]\n#[ 1 1 0 -1 0]\n)\n)\n(newparm 3 (div #[ 0 3 2 1] 4))\n(if #[ 0 -3 -2 4 -1]\n(list\n#[ 1 -1 -1 0 2]\n#[ 1 1 0 -1 0]\n)\n(list\n#[ 1 -1 -1 0 2]\n#[ 1 1 0 -1 0]\n)\n)\n)\n)\n)\n)\n" ∷ []) finished
  random_3 : Writes (solve_in 1000 100 100 100) (codes "((q) 1 0 3 0 -1 1 (#[-4 5] #[2 2] #[2 -8]) ())") (codes "((q)\n()\n)\n" ∷ []) finished
  random_6 : Writes (solve_in 1000 100 100 100) (codes "((q) 1 1 3 2 -1 1 (#[-1 4 0] #[-4 9 1] #[0 2 -3]) (#[-3 -5] #[-2 3]))") (codes "((q)\nvoid\n)\n" ∷ []) finished
  random_9 : Writes (solve_in 1000 100 100 2) (codes "((q) 2 2 2 1 -1 1 (#[-3 -2 -3 3 4] #[-3 0 -4 -1 -4]) (#[-3 -1 0]))") (codes "((q)\n()\n)\n" ∷ []) finished
  random_12 : Writes (solve_in 1000 100 100 2) (codes "((q) 2 0 3 0 -1 1 (#[-3 3 7] #[1 -4 -6] #[1 1 -8]) ())") (codes "((q)\n()\n)\n" ∷ []) finished
  random_15 : Writes (solve_in 1000 100 100 100) (codes "((q) 3 2 1 1 -1 1 (#[-1 -3 3 9 3 0]) (#[-3 -1 -2]))") (codes "((q)\nvoid\n)\n" ∷ []) finished
  random_18 : Writes (solve_in 1000 1 100 100) (codes "((q) 1 0 2 0 -1 1 (#[2 2] #[4 5]) ())") (codes "((q)\n(list\n#[ 0]\n)\n)\n" ∷ []) finished
  random_21 : Writes (solve_in 1000 100 100 100) (codes "((q) 2 2 1 0 -1 1 (#[2 -2 4 3 -1]) ())") (codes "((q)\n(if #[ 3 -1 4]\n(list\n#[ 0 0 0]\n#[ 0 0 0]\n)\n(newparm 2 (div #[ 1 1 0] 2))\n(if #[ -1 -1 2 0]\n(list\n#[ -1 1 -1 -2]\n#[ 0 0 0 0]\n)\n(list\n#[ -1 1 -1 -2]\n#[ 0 0 0 0]\n)\n)\n)\n)\n" ∷ []) finished
  random_24 : Writes (solve_in 1000 2 3 4) (codes "((q) 3 2 3 2 -1 1 (#[-3 -1 3 6 4 0] #[4 -2 4 6 4 0] #[0 2 -1 -1 -2 4]) (#[1 -1 3] #[0 -2 0]))") (codes "((q)\n(list\n#[ 0 0 0]\n#[ 1 -2 1]\n#[ 0 0 0]\n)\n)\n" ∷ []) finished
  random_27 : Writes (solve_in 1000 100 100 100) (codes "((q) 1 0 2 0 -1 1 (#[-2 -10] #[-4 -4]) ())") (codes "((q)\n()\n)\n" ∷ []) finished
  random_30 : Writes (solve_in 1000 100 1 100) (codes "((q) 3 2 2 0 -1 1 (#[-1 -1 -1 -7 -2 -1] #[-2 -3 0 2 -3 2]) ())") (codes "((q)\n()\n)\n" ∷ []) finished
  random_33 : Writes (solve_in 1000 1 100 100) (codes "((q) 1 0 2 0 -1 1 (#[1 3] #[-1 9]) ())") (codes "((q)\n(list\n#[ 0]\n)\n)\n" ∷ []) finished
  random_36 : Writes (solve_in 8 100 100 100) (codes "((q) 2 0 3 0 -1 1 (#[0 3 -7] #[-4 1 10] #[-4 -1 -2]) ())") (codes "((q)\n()\n)\n" ∷ []) finished
  random_39 : Writes (solve_in 8 100 100 100) (codes "((q) 3 2 2 2 -1 1 (#[3 -3 4 9 -4 2] #[-2 2 3 -5 3 4]) (#[1 1 -6] #[0 0 0]))") ([]) (ending 5 (codes "budget of pivots 8"))
  random_42 : Writes (solve_in 1000 100 100 100) (codes "((q) 1 0 3 0 -1 1 (#[3 -7] #[-1 -9] #[1 6]) ())") (codes "((q)\n()\n)\n" ∷ []) finished
  random_45 : Writes (solve_in 1000 100 100 100) (codes "((q) 3 2 3 2 -1 1 (#[0 -1 -1 -3 4 -1] #[-4 -4 -4 -2 0 2] #[-4 -4 -3 -3 4 0]) (#[-3 3 -5] #[2 -2 2]))") (codes "((q)\nvoid\n)\n" ∷ []) finished
  random_48 : Writes (solve_in 1000 1 100 100) (codes "((q) 1 1 1 2 -1 1 (#[3 0 0]) (#[-2 -3] #[-1 4]))") (codes "((q)\nvoid\n)\n" ∷ []) finished
  random_51 : Writes (solve_in 1000 1 100 100) (codes "((q) 3 0 3 0 -1 1 (#[-4 2 -3 8] #[4 0 4 -8] #[1 -3 0 -7]) ())") (codes "((q)\n()\n)\n" ∷ []) finished
  random_54 : Writes (solve_in 1000 2 3 4) (codes "((q) 3 2 1 2 -1 1 (#[2 2 -2 -3 -2 2]) (#[2 -2 -1] #[-2 0 0]))") (codes "((q)\nvoid\n)\n" ∷ []) finished
  random_57 : Writes (solve_in 1000 100 100 100) (codes "((q) 3 2 3 1 -1 0 (#[2 1 4 -8 3 -1] #[2 -4 -1 -6 2 4] #[4 0 -4 -3 -4 3]) (#[-1 0 6]))") (codes "((q)\n(if #[ 3 -1 -8]\n(if #[ -4 3 -3]\n(list\n#[ 0 0 0]\n#[ 0 0 0]\n#[ 0 0 0]\n)\n(list\n#[ 1 -3/4 3/4]\n#[ 0 0 0]\n#[ 0 0 0]\n)\n)\n(if #[ 11 15 -32]\n(if #[ -1 2 -11]\n(list\n#[ 0 0 0]\n#[ 0 0 0]\n#[ -3/4 1/4 2]\n)\n(if #[ -4 3 -3]\n(if #[ -4 45 -197]\n(list\n#[ 0 0 0]\n#[ 1 -2 11]\n#[ -1 3/4 -3/4]\n)\n(list\n#[ 1/25 -9/20 197/100]\n#[ 19/25 7/10 -41/50]\n#[ -24/25 3/10 61/50]\n)\n)\n(if #[ -2 1 2]\n(if #[ 16 -5 -21]\n(list\n#[ 1 -3/4 3/4]\n#[ -5 5/2 13/2]\n#[ 0 0 0]\n)\n(list\n#[ 1/25 -9/20 197/100]\n#[ 19/25 7/10 -41/50]\n#[ -24/25 3/10 61/50]\n)\n)\n(list\n#[ 1 -3/4 3/4]\n#[ 0 0 0]\n#[ 0 0 0]\n)\n)\n)\n)\n(if #[ -38 -35 41]\n(list\n#[ -11/10 -3/2 16/5]\n#[ 0 0 0]\n#[ -1/5 1 2/5]\n)\n(if #[ -16 5 20]\n(list\n#[ 1/25 -9/20 197/100]\n#[ 19/25 7/10 -41/50]\n#[ -24/25 3/10 61/50]\n)\n(list\n#[ 1 -3/4 3/4]\n#[ 0 0 0]\n#[ 0 0 0]\n)\n)\n)\n)\n)\n)\n" ∷ []) finished

random_rows_hold : RandomRowsHold
unfolding digits
random_rows_hold = record {
  random_0 = refl;
  random_3 = refl;
  random_6 = refl;
  random_9 = refl;
  random_12 = refl;
  random_15 = refl;
  random_18 = refl;
  random_21 = refl;
  random_24 = refl;
  random_27 = refl;
  random_30 = refl;
  random_33 = refl;
  random_36 = refl;
  random_39 = refl;
  random_42 = refl;
  random_45 = refl;
  random_48 = refl;
  random_51 = refl;
  random_54 = refl;
  random_57 = refl;
}
