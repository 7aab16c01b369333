-- Random commands on trees, whose texts and ends an independent program gave.
use Rattle.model_rows.proofs.Words.{refl, ℕ, [], ◌∷◌, codes, Budget, ending, finished, Restrict, Same, Least, Pieces, Writes, digits}

abbrev budget : ℕ → ℕ → ℕ → ℕ → Budget
budget p c s n = record { pivots = p; cuts = c; splits = s; nesting = n }

record WideToolsHold : Type 0 where
  case_0 : Writes (Pieces 2) (codes "((s)\n(if #[ -1 18446744073709551616 170141183460469231731687303715884105727]\n(list\n#[ 0 56713727820156410577229101238628035243 0]\n#[ 85070591730234615865843651857942052863 0 0]\n#[ 0 0 56713727820156410577229101238628035243]\n)\n(newparm 2 (div #[ 5 5 4] 6))\n(if #[ 85070591730234615865843651857942052863 -5 6 -4]\n(list\n#[ 0 0 0 10000000000000000000000000000000000000]\n#[ 1 1 -1 -2]\n#[ 0 170141183460469231731687303715884105727 0 0]\n)\n(list\n#[ 0 0 0 0]\n#[ 1 1 -1 -2]\n#[ 0 56713727820156410577229101238628035243 0 0]\n)\n)\n)\n)\n") ([]) (ending 4 (codes "overflow"))
  case_5 : Writes (Pieces 3) (codes "((a (b))\n(list\n#[ 0 3 170141183460469231731687303715884105727 1]\n)\n)\n") ((codes "((a (b))\n(piece\n(list\n#[ 0 3 170141183460469231731687303715884105727 1]\n)\n)\n)\n") ∷ []) finished
  case_10 : Writes (Pieces 3) (codes "((s)\n(if #[ -1 1 1 -3]\n(list\n#[ 0 0 0 0]\n#[ 0 0 0 0]\n)\n()\n)\n)\n") ((codes "((s)\n(piece\n(where #[ -1 1 1 -3])\n(list\n#[ 0 0 0 0]\n#[ 0 0 0 0]\n)\n)\n(piece\n(where #[ 1 -1 -1 2])\n()\n)\n)\n") ∷ []) finished
  case_15 : Writes (Least 3 (budget 300 40 10000 200)) (codes "(#[-3 2 -2 -5])(()\n(newparm 3 (div #[ 170141183460469231731687303715884105727 1 1 3] 4))\n(list\n#[ 3 -1 56713727820156410577229101238628035243 -3 2]\n)\n)\n((a (b))\n(newparm 3 (div #[ 0 2 2 2] 1))\n(newparm 4 (div #[ 2 2 1 1 3] 4))\n(if #[ 0 1 1 -1 2 -3]\n(newparm 5 (div #[ 0 2 0 0 1 5] 4))\n(list\n#[ 0 -2 -1 -2 0 -3 4]\n#[ 0 -1 -2 -1 -2 0 0]\n)\n(if #[ 0 1 0 -1 -1 -5]\n(list\n#[ -1/2 -1/2 -3/2 -1/2 -1 2]\n#[ 1 2 0 3 2 -3]\n)\n(list\n#[ 2 1 1 -3 3 4]\n#[ -3 0 3 -2 1 -5]\n)\n)\n)\n)\n") ([]) (ending 4 (codes "overflow"))
  case_20 : Writes (Pieces 2) (codes "((a (b))\n(list\n#[ 3/2 -3/2 18446744073709551616]\n#[ 2 -85070591730234615865843651857942052864 -2]\n)\n)\n((s)\n(newparm 2 (div #[ -170141183460469231731687303715884105727 3 85070591730234615865843651857942052863] 4))\n(list\n#[ 1 1 18446744073709551616 28]\n#[ -170141183460469231731687303715884105727 85070591730234615865843651857942052863 -1 14]\n)\n)\n") ((codes "((a (b))\n(piece\n(list\n#[ 3/2 -3/2 18446744073709551616]\n#[ 2 -85070591730234615865843651857942052864 -2]\n)\n)\n)\n") ∷ (codes "((s)\n(piece\n(newparm 2 (div #[ -170141183460469231731687303715884105727 3 85070591730234615865843651857942052863] 4))\n(list\n#[ 1 1 18446744073709551616 28]\n#[ -170141183460469231731687303715884105727 85070591730234615865843651857942052863 -1 14]\n)\n)\n)\n") ∷ []) finished
  case_25 : Writes (Pieces 2) (codes "(()\n(list\n#[ 0 3 2]\n#[ 0 3 -1]\n#[ 0 0 1]\n)\n)\n") ((codes "(()\n(piece\n(list\n#[ 0 3 2]\n#[ 0 3 -1]\n#[ 0 0 1]\n)\n)\n)\n") ∷ []) finished
  case_30 : Writes (Same 0 (budget 300 40 10000 200)) (codes "()((s)\n(list\n#[ 0]\n)\n)\n((s)\n()\n)\n") ((codes "differ #[]\n") ∷ []) finished
  case_35 : Writes (Same 1 (budget 300 40 10000 200)) (codes "()((c)\n(list\n#[ 18446744073709551616 -5]\n#[ -170141183460469231731687303715884105727 4]\n)\n)\n(()\n(list\n#[ 3 -2]\n#[ 3 -1]\n)\n)\n") ((codes "differ #[ 1]\n") ∷ []) finished
  case_45 : Writes (Pieces 3) (codes "((s)\n()\n)\n(()\n(if #[ 1 10000000000000000000000000000000000000 170141183460469231731687303715884105727 56713727820156410577229101238628035243]\n(newparm 3 (div #[ 1 2 3 56713727820156410577229101238628035243] 4))\n(if #[ 0 0 -2 -2 -3]\n(newparm 4 (div #[ 1 0 3 1 -1000000000000000000000000000000] 4))\n(list\n#[ -85070591730234615865843651857942052864 0 -1/3 1 -1000000000000000000000000000000 -4/3]\n)\n(newparm 4 (div #[ 10000000000000000000000000000000000000 2 -170141183460469231731687303715884105727 2 4] 2))\n(list\n#[ 10000000000000000000000000000000000000 3 -1000000000000000000000000000000 56713727820156410577229101238628035243 1 -1000000000000000000000000000000]\n)\n)\n(list\n#[ 0 -3/2 -1/2 5/2]\n)\n)\n)\n") ((codes "((s)\n(piece\n()\n)\n)\n") ∷ []) (ending 9 (codes "number too wide at byte 303"))
  case_50 : Writes (Pieces 1) (codes "((s)\nvoid\n)\n") ((codes "((s)\nvoid\n)\n") ∷ []) finished
  case_51 : Writes (Same 2 (budget 300 40 10000 200)) (codes "(#[-3 -2 5])((c)\n(newparm 2 (div #[ 85070591730234615865843651857942052863 1 3] 3))\n(list\n#[ -1 56713727820156410577229101238628035243 2 2]\n#[ -3 -3 3 -1000000000000000000000000000000]\n#[ -85070591730234615865843651857942052864 -1 -1 -4/3]\n)\n)\n(()\n(list\n#[ 0 -1 170141183460469231731687303715884105727]\n#[ 2 1 10000000000000000000000000000000000000]\n#[ -1 10000000000000000000000000000000000000 170141183460469231731687303715884105727]\n)\n)\n") ([]) (ending 9 (codes "number too wide at byte 185"))
  case_54 : Writes (Least 1 (budget 300 40 10000 200)) (codes "()(()\n(if #[ -1 1]\n(newparm 1 (div #[ 0 -85070591730234615865843651857942052864] 4))\n(if #[ 1 56713727820156410577229101238628035243 170141183460469231731687303715884105727]\n()\n(list\n#[ 2 18446744073709551616 85070591730234615865843651857942052863]\n#[ 3 56713727820156410577229101238628035243 -3]\n#[ 1/3 56713727820156410577229101238628035243 -5/3]\n)\n)\n(if #[ 0 4]\n(newparm 56713727820156410577229101238628035243 (div #[ 0 2] 4))\n(list\n#[ 1 1 4]\n#[ 10000000000000000000000000000000000000 3 4]\n#[ 1/2 1 5/2]\n)\n(if #[ -1000000000000000000000000000000 5]\n()\n()\n)\n)\n)\n)\n((s)\n(if #[ -1 1]\n(list\n#[ 0 0]\n#[ 0 0]\n#[ 0 0]\n)\n(list\n#[ 0 0]\n#[ 0 0]\n#[ 1 -1]\n)\n)\n)\n") ([]) (ending 9 (codes "number too wide at byte 297"))
  case_55 : Writes (Least 3 (budget 300 40 10000 200)) (codes "()((a (b))\n(if #[ 2 2 0 -2]\n(list\n#[ -1 1 0 2]\n#[ 2/3 -2/3 1 5/3]\n#[ 1 2/3 1 5/3]\n)\n(newparm 3 (div #[ 2 2 2 4] 2))\n(list\n#[ -1 -2 0 -2 -5]\n#[ -1/2 1/2 1 -3/2 1/2]\n#[ 3 -3 3 1 4]\n)\n)\n)\n(()\n(if #[ -1 -1 0 -4]\n(list\n#[ 170141183460469231731687303715884105727 1 -2 0]\n)\n()\n)\n)\n") ((codes "((a (b))\n(if #[ 2 2 0 -2]\n(list\n#[ -1 1 0 2]\n#[ 2/3 -2/3 1 5/3]\n#[ 1 2/3 1 5/3]\n)\n(newparm 3 (div #[ 2 2 2 4] 2))\n(list\n#[ -1 -2 0 -2 -5]\n#[ -1/2 1/2 1 -3/2 1/2]\n#[ 3 -3 3 1 4]\n)\n)\n)\n") ∷ []) finished
  case_60 : Writes (Same 2 (budget 300 40 10000 200)) (codes "(#[1 -1 9])((s)\n(if #[ -1 -1 2]\n()\n(if #[ 85070591730234615865843651857942052863 -1 -1000000000000000000000000000000]\n()\n(if #[ 22 7 -39]\n(list\n#[ -6/29 6/29 8/29]\n#[ 22/29 7/29 -39/29]\n)\n()\n)\n)\n)\n)\n((s)\n(if #[ 1 -4 -4]\n(if #[ -1 4 4]\n(list\n#[ 0 0 0]\n)\n()\n)\n(newparm 2 (div #[ 1 2 2] 3))\n(if #[ -1 -2 3 -2]\n(list\n#[ 0 2 -1 2]\n)\n()\n)\n)\n)\n") ((codes "differ #[ 0 2]\n") ∷ []) finished
  case_65 : Writes (Pieces 0) (codes "((a (b))\n(if #[ -2]\n(if #[ 4]\n(if #[ 0]\n(list\n#[ 4/3]\n#[ 85070591730234615865843651857942052863]\n)\n()\n)\n(newparm 0 (div #[ 4] 4))\n(list\n#[ 2/3 -1]\n#[ 2 -4]\n)\n)\n()\n)\n)\n((c)\n(newparm -170141183460469231731687303715884105727 (div #[ 0] 4))\n(list\n#[ -1 -2/3]\n)\n)\n") ((codes "((a (b))\n(piece\n(where #[ -2])\n(where #[ 4])\n(where #[ 0])\n(list\n#[ 4/3]\n#[ 85070591730234615865843651857942052863]\n)\n)\n(piece\n(where #[ -2])\n(where #[ 4])\n(where #[ -1])\n()\n)\n(piece\n(where #[ -2])\n(where #[ -5])\n(newparm 0 (div #[ 4] 4))\n(list\n#[ 2/3 -1]\n#[ 2 -4]\n)\n)\n(piece\n(where #[ 1])\n()\n)\n)\n") ∷ []) (ending 2 (codes "syntax at byte 181"))
  case_70 : Writes (Restrict 2 (budget 300 40 10000 200)) (codes "()(()\n()\n)\n") ((codes "(()\n()\n)\n") ∷ []) finished
  case_80 : Writes (Least 1 (budget 300 40 10000 200)) (codes "()((s)\n(if #[ 1 -4]\n(list\n#[ 0 0]\n#[ -1000000000000000000000000000000 18]\n)\n(list\n#[ -1 4]\n#[ -1000000000000000000000000000000 14]\n)\n)\n)\n((s)\n(if #[ 1 -3]\n(if #[ -1 3]\n(list\n#[ 0 0]\n#[ 0 0]\n)\n()\n)\n()\n)\n)\n") ((codes "((s)\n(if #[ 1 -4]\n(list\n#[ 0 0]\n#[ -1000000000000000000000000000000 18]\n)\n(if #[ 1 -3]\n(list\n#[ 0 0]\n#[ 0 0]\n)\n(list\n#[ -1 4]\n#[ -1000000000000000000000000000000 14]\n)\n)\n)\n)\n") ∷ []) finished
  case_85 : Writes (Restrict 1 (budget 300 40 10000 200)) (codes "()((s)\n(list\n#[ 0 0]\n#[ 0 0]\n#[ 0 0]\n)\n)\n") ((codes "((s)\n(list\n#[ 0 0]\n#[ 0 0]\n#[ 0 0]\n)\n)\n") ∷ []) finished
  case_90 : Writes (Same 2 (budget 300 40 10000 200)) (codes "()((a (b))\n(if #[ 2 -85070591730234615865843651857942052864 -5]\n(newparm 85070591730234615865843651857942052863 (div #[ 0 1 0] 4))\n(newparm 3 (div #[ 1 0 2 4] 4))\n(newparm 4 (div #[ 1 2 2 1 5] 1))\n(list\n#[ -1/3 -1 1 -1/3 1/3 1/3]\n)\n(if #[ 0 -2 -85070591730234615865843651857942052864]\n()\n(list\n#[ 1 -1000000000000000000000000000000 5]\n)\n)\n)\n)\n(()\n(list\n#[ 0 3 2]\n#[ 0 -3/2 -1/2]\n#[ 1/3 2/3 0]\n)\n)\n") ([]) (ending 2 (codes "syntax at byte 73"))
  case_95 : Writes (Pieces 2) (codes "((c)\n(newparm 2 (div #[ 2 0 2] 3))\n(newparm 3 (div #[ 1 2 2 3] 3))\n()\n)\n") ((codes "((c)\n(piece\n(newparm 2 (div #[ 2 0 2] 3))\n(newparm 3 (div #[ 1 2 2 3] 3))\n()\n)\n)\n") ∷ []) finished
  case_100 : Writes (Same 1 (budget 300 40 10000 200)) (codes "()((c)\n(if #[ 2 1]\n(if #[ -1 -1]\n(list\n#[ -1/3 -4/3]\n#[ -1 56713727820156410577229101238628035243]\n)\n(if #[ 2 4]\n()\n(list\n#[ 3/2 1]\n#[ 0 -5]\n)\n)\n)\n(list\n#[ 10000000000000000000000000000000000000 -2]\n#[ -1 -1/2]\n)\n)\n)\n(()\n(newparm 1 (div #[ 2 2] 2))\n()\n)\n") ((codes "same\n") ∷ []) finished
  case_110 : Writes (Pieces 2) (codes "((s)\n()\n)\n") ((codes "((s)\n(piece\n()\n)\n)\n") ∷ []) finished
  case_115 : Writes (Pieces 2) (codes "((s)\nvoid\n)\n((s)\n(if #[ 1 -2 12]\n(list\n#[ 0 0 0]\n#[ 0 0 0]\n#[ 0 0 0]\n)\n()\n)\n)\n") ((codes "((s)\nvoid\n)\n") ∷ (codes "((s)\n(piece\n(where #[ 1 -2 12])\n(list\n#[ 0 0 0]\n#[ 0 0 0]\n#[ 0 0 0]\n)\n)\n(piece\n(where #[ -1 2 -13])\n()\n)\n)\n") ∷ []) finished
  case_120 : Writes (Same 1 (budget 300 40 10000 200)) (codes "(#[2 -3])((s)\n()\n)\n(()\n(newparm 1 (div #[ 0 10000000000000000000000000000000000000] 3))\n(if #[ 2 -1 -1]\n(list\n#[ 2 2 85070591730234615865843651857942052863]\n)\n(list\n#[ 3 10000000000000000000000000000000000000 2]\n)\n)\n)\n") ((codes "differ #[ 1666666666666666666666666666666666667]\n") ∷ []) finished
  case_125 : Writes (Restrict 1 (budget 300 40 10000 200)) (codes "(#[2 0] #[1 6])((s)\n(list\n#[ 0 0]\n#[ 0 0]\n)\n)\n") ((codes "((s)\n(list\n#[ 0 0]\n#[ 0 0]\n)\n)\n") ∷ []) finished

wide_tools_hold : WideToolsHold
unfolding digits
wide_tools_hold = record {
  case_0 = refl;
  case_5 = refl;
  case_10 = refl;
  case_15 = refl;
  case_20 = refl;
  case_25 = refl;
  case_30 = refl;
  case_35 = refl;
  case_45 = refl;
  case_50 = refl;
  case_51 = refl;
  case_54 = refl;
  case_55 = refl;
  case_60 = refl;
  case_65 = refl;
  case_70 = refl;
  case_80 = refl;
  case_85 = refl;
  case_90 = refl;
  case_95 = refl;
  case_100 = refl;
  case_110 = refl;
  case_115 = refl;
  case_120 = refl;
  case_125 = refl;
}
