-- Random commands on trees, whose texts and ends an independent program gave.
use Rattle.model_rows.proofs.Words.{refl, ℕ, [], ◌∷◌, codes, Budget, ending, finished, Restrict, Same, Least, Writes, digits}

abbrev budget : ℕ → ℕ → ℕ → ℕ → Budget
budget p c s n = record { pivots = p; cuts = c; splits = s; nesting = n }

record RandomToolsHold : Type 0 where
  case_0 : Writes (Least 0 (budget 1000000 100000 10000 200)) (codes "()((a (b))\n(newparm 0 (div #[ 4] 4))\n(list\n#[ -1 -4]\n#[ -2/3 -1]\n)\n)\n((s)\n()\n)\n") ((codes "((a (b))\n(newparm 0 (div #[ 4] 4))\n(list\n#[ -1 -4]\n#[ -2/3 -1]\n)\n)\n") ∷ []) finished
  case_4 : Writes (Restrict 3 (budget 1000000 100000 10000 200)) (codes "(#[-1 -3 3 -4])((c)\n(if #[ 0 1 2 2]\n(if #[ -1 2 2 3]\n(list\n#[ 2/3 -1/3 1/3 2/3]\n#[ -2/3 2/3 -1 -2/3]\n#[ 3 1 1 2]\n)\n()\n)\n(if #[ 2 1 2 3]\n()\n(list\n#[ -3/2 0 1 1/2]\n#[ -1 -1 -1 1/2]\n#[ 0 -2 -1 0]\n)\n)\n)\n)\n") ((codes "((c)\n(if #[ -1 2 2 3]\n(list\n#[ 2/3 -1/3 1/3 2/3]\n#[ -2/3 2/3 -1 -2/3]\n#[ 3 1 1 2]\n)\n()\n)\n)\n") ∷ []) finished
  case_8 : Writes (Least 2 (budget 1000000 100000 10000 200)) (codes "(#[0 -1 -2])(()\n()\n)\n(()\n(if #[ -2 2 5]\n(if #[ 1 -2 1]\n(newparm 2 (div #[ 1 2 0] 4))\n()\n(newparm 2 (div #[ 0 2 1] 1))\n()\n)\n()\n)\n)\n()((s)\n()\n)\n((s)\n(if #[ -1 0 2]\n(list\n#[ 0 0 0]\n#[ 0 0 0]\n#[ 0 0 0]\n)\n(list\n#[ 0 0 0]\n#[ 0 0 0]\n#[ 2 0 -4]\n)\n)\n)\n") ((codes "(()\nvoid\n)\n") ∷ (codes "((s)\n(if #[ -1 0 2]\n(list\n#[ 0 0 0]\n#[ 0 0 0]\n#[ 0 0 0]\n)\n(list\n#[ 0 0 0]\n#[ 0 0 0]\n#[ 2 0 -4]\n)\n)\n)\n") ∷ []) finished
  case_12 : Writes (Least 3 (budget 1000000 100000 10000 200)) (codes "(#[-1 1 -3 1])((c)\n(newparm 3 (div #[ 1 2 2 0] 2))\n()\n)\n((c)\n(list\n#[ 0 2 -3 -3]\n)\n)\n") ((codes "((c)\n(newparm 3 (div #[ 1 2 2 0] 2))\n(list\n#[ 0 2 -3 0 -3]\n)\n)\n") ∷ []) finished
  case_16 : Writes (Restrict 0 (budget 30 100000 10000 200)) (codes "(#[10] #[6])((c)\n(list\n#[ 5]\n)\n)\n") ((codes "((c)\n(list\n#[ 5]\n)\n)\n") ∷ []) finished
  case_20 : Writes (Restrict 1 (budget 1000000 0 10000 200)) (codes "(#[0 -2] #[0 9])((c)\n()\n)\n") ((codes "((c)\nvoid\n)\n") ∷ []) finished
  case_24 : Writes (Least 1 (budget 1000000 100000 10000 200)) (codes "(#[3 3])((a (b))\n(newparm 1 (div #[ 3 5] 4))\n(list\n#[ -3 2 1]\n)\n)\n((s)\n(list\n#[ 0 0]\n#[ 2 11]\n#[ 0 0]\n)\n)\n(#[-2 -3])((s)\nvoid\n)\n((c)\n(newparm 1 (div #[ 1 3] 2))\n(newparm 2 (div #[ 1 2 2] 4))\n(if #[ 1 -2 2 0]\n(list\n#[ 0 -3/2 1/2 1/2]\n#[ 1 2 -3 -4]\n)\n(list\n#[ 1 -1/3 2/3 -4/3]\n#[ -3 -2 -1 3]\n)\n)\n)\n") ([]) (ending 12 (codes "lists of 1 and 3 components"))
  case_28 : Writes (Restrict 1 (budget 1000000 100000 10000 200)) (codes "(#[0 9])((c)\n(if #[ -1 2]\n(list\n#[ 2 2]\n#[ 2 3]\n#[ -2 -2]\n)\n()\n)\n)\n") ((codes "((c)\n(if #[ -1 2]\n(list\n#[ 2 2]\n#[ 2 3]\n#[ -2 -2]\n)\n()\n)\n)\n") ∷ []) finished
  case_32 : Writes (Same 0 (budget 1000000 100000 10000 200)) (codes "(#[10])((s)\n()\n)\n((a (b))\n(if #[ 3]\n(list\n#[ -5]\n)\n(list\n#[ -4]\n)\n)\n)\n") ((codes "differ #[]\n") ∷ []) finished
  case_36 : Writes (Same 2 (budget 1000000 100000 10000 200)) (codes "()((s)\n(if #[ 0 1 -2]\n(list\n#[ 0 0 0]\n#[ 0 0 0]\n)\n(newparm 2 (div #[ 0 1 0] 2))\n(if #[ 0 -1 2 0]\n(list\n#[ 0 0 0 0]\n#[ 0 0 -1 1]\n)\n(list\n#[ 0 0 0 0]\n#[ 0 0 -1 1]\n)\n)\n)\n)\n((s)\n(if #[ -1 0 5]\n(if #[ 0 -1 5]\n(if #[ -1 0 1]\n(list\n#[ 0 0 0]\n#[ 0 0 0]\n)\n(list\n#[ 2 0 -3]\n#[ 0 0 0]\n)\n)\n()\n)\n(if #[ 0 -1 5]\n(list\n#[ 2 0 -3]\n#[ 0 0 0]\n)\n()\n)\n)\n)\n(#[-3 -3 -2] #[-3 -3 9])((a (b))\n(newparm 2 (div #[ 1 2 1] 3))\n(if #[ 1 -1 -1 -3]\n(list\n#[ -1 -1/2 1 5/2]\n)\n(newparm 3 (div #[ 0 0 0 4] 1))\n(list\n#[ -3 -1 -1 -3 2]\n)\n)\n)\n((t)\n(newparm 2 (div #[ 1 2 1] 3))\n(if #[ 1 -1 -1 -3]\n(list\n#[ -1 -1/2 1 5/2]\n)\n(newparm 3 (div #[ 0 0 0 4] 1))\n(list\n#[ -3 -1 -1 -3 2]\n)\n)\n)\n") ((codes "differ #[ 2 2]\n") ∷ (codes "same\n") ∷ []) finished
  case_40 : Writes (Least 2 (budget 1000000 100000 0 200)) (codes "()((s)\n(newparm 2 (div #[ 4 0 2] 5))\n(list\n) 0 0 0 0]\n#[ 1 0 -1 6]\n)\n)\n((t)\n(newparm 2 (div #[ 4 0 2] 5))\n(list\n#[ 0 0 0 0]\n#[ 1 0 -1 6]\n#[\n)\n") ([]) (ending 2 (codes "syntax at byte 43"))
  case_44 : Writes (Least 2 (budget 1000000 100000 10000 3)) (codes "(#[1 -3 0] #[-3 3 -4])((a (b))\n(list\n#[ 0 0 -5]\n#[ 2 0 -5]\n#[ -2 -1 -3]\n)\n)\n(()\n(newparm 2 (div #[ 1 2 3] 2))\n(list\n#[ 1 0 3 1]\n#[ 0 1 1 5/2]\n#[ -3 -2 -3 5]\n)\n)\n") ((codes "((a (b))\nvoid\n)\n") ∷ []) finished
  case_48 : Writes (Restrict 2 (budget 2 100000 10000 200)) (codes "()((s)\n(if #[ 0 -1 14]\n(list\n#[ 0 0 0]\n#[ 0 0 8]\n#[ 0 0 0]\n)\n(newparm 2 (div #[ 0 3 1] 7))\n(if #[ 0 -3 7 -1]\n(list\n#[ 0 0 0 0]\n#[ 0 1 -1 0]\n#[ 0 1 -1 -8]\n)\n(list\n#[ 0 0 0 0]\n#[ 0 1 -1 0]\n#[ 0 1 -1 -8]\n)\n)\n)\n)\n") ([]) (ending 5 (codes "budget of pivots 2"))
  case_52 : Writes (Restrict 0 (budget 1000000 100000 10000 200)) (codes "()((c)\nvoid\n)\n") ((codes "((c)\nvoid\n)\n") ∷ []) finished
  case_56 : Writes (Restrict 0 (budget 0 100000 10000 200)) (codes "(#[-2])(()\n(newparm 0 (div #[ 3] 2))\n(if #[ -2 -1]\n(newparm 1 (div #[ 2 2] 1))\n(list\n#[ 1 2 3]\n#[ 1 2/3 0]\n#[ 0 -3 -4]\n)\n()\n)\n)\n") ((codes "(()\nvoid\n)\n") ∷ []) finished
  case_60 : Writes (Least 3 (budget 1000000 100000 10000 200)) (codes "(#[1 2 -1 -1])((s)\n(if #[ 0 1 0 -9]\n(newparm 3 (div #[ 1 0 1 1] 2))\n(list\n#[ 0 0 0 0 0]\n#[ 1 0 1 -1 7]\n)\n(newparm 3 (div #[ 0 1 0 3] 4))\n(if #[ 0 -1 0 4 -3]\n(newparm 4 (div #[ 4 7 4 0 5] 8))\n(if #[ -4 -7 -4 0 8 -5]\n(list\n#[ 0 0 0 -1 0 3]\n#[ 1 1 1 0 -1 6]\n)\n(newparm 5 (div #[ 24 21 24 0 8 23] 28))\n(newparm 6 (div #[ 0 3 0 0 0") ([]) (ending 2 (codes "syntax at byte 326"))
  case_64 : Writes (Restrict 0 (budget 1000000 100000 10000 200)) (codes "(#[-5] #[4])(()\n(if #[ 4]\n(newparm 0 (div #[ 2] 1))\n()\n(list\n#[ 2/3]\n#[ -1/2]\n#[ -4/3]\n)\n)\n)\n") ((codes "(()\nvoid\n)\n") ∷ []) finished

random_tools_hold : RandomToolsHold
unfolding digits
random_tools_hold = record {
  case_0 = refl;
  case_4 = refl;
  case_8 = refl;
  case_12 = refl;
  case_16 = refl;
  case_20 = refl;
  case_24 = refl;
  case_28 = refl;
  case_32 = refl;
  case_36 = refl;
  case_40 = refl;
  case_44 = refl;
  case_48 = refl;
  case_52 = refl;
  case_56 = refl;
  case_60 = refl;
  case_64 = refl;
}

record MoreToolsHold : Type 0 where
  case_68 : Writes (Restrict 1 (budget 5 100000 10000 200)) (codes "(#[-1 2])((s)\n(if #[ -1 4]\n(if #[ 1 -4]\n(list\n#[ 0 0]\n#[ 0 0]\n)\n(if #[ 1 -3]\n(list\n#[ -5/7 20/7]\n#[ -2/7 8/7]\n)\n()\n)\n)\n(if #") ([]) (ending 2 (codes "syntax at byte 123"))
  case_72 : Writes (Same 3 (budget 1000000 100000 10000 200)) (codes "(#[3 2 -2 8])((s)\nvoid\n)\n((s)\nvoid\n)\n") ((codes "same\n") ∷ []) finished
  case_76 : Writes (Same 0 (budget 1000000 30 10000 200)) (codes "(#[8])((s)\nvoid\n)\n((s)\n()\n)\n") ((codes "differ #[]\n") ∷ []) finished
  case_80 : Writes (Same 1 (budget 1000000 100000 10000 200)) (codes "(#[-1 -6])(()\n(if #[ 2 5]\n(list\n#[ -3 2]\n#[ 3/2 -1/2]\n#[ -3/2 5/2]\n)\n(list\n#[ 2 -4]\n#[ -3 3]\n#[ 0 4/3]\n)\n)\n)\n((s)\n()\n)\n") ((codes "same\n") ∷ []) finished
  case_84 : Writes (Restrict 2 (budget 1000000 100000 10000 200)) (codes "(#[-1 -1 -3])((c)\n()\n)\n(#[0 1 10])((s)\n()\n)\n") ((codes "((c)\nvoid\n)\n") ∷ (codes "((s)\n()\n)\n") ∷ []) finished
  case_88 : Writes (Same 1 (budget 1000000 100000 10000 200)) (codes "()((s)\n(if #[ 1 -14]\n(list\n#[ 0 0]\n)\n(list\n#[ -1/2 7]\n)\n)\n)\n((t)\n(if #[ 1 -14]\n(list\n#[ 0 0]\n)\n(list\n#[ -1/2 7]\n)\n)\n)\n") ((codes "same\n") ∷ []) finished
  case_92 : Writes (Same 2 (budget 1000000 100000 10000 200)) (codes "(#[2 -1 0] #[-3 0 -4])((a (b))\n(list\n#[ -1 0 4]\n#[ 2 3 1]\n#[ 1 -3 -1]\n)\n)\n((t)\n(list\n#[ -1 0 4]\n#[ 2 3 1]\n#[ 1 -3 -1]\n)\n)\n") ((codes "same\n") ∷ []) finished
  case_95 : Writes (Same 3 (budget 1000000 100000 2 200)) (codes "()(()\n(if #[ -1 2 1 5]\n(list\n#[ 1 -1 -3 -4]\n)\n()\n)\n)\n((s)\n(if #[ 2 -1 0 -7]\n(if #[ -1 0 0 26]\n(if #[ 1 0 0 -26]\n()\n()\n)\n()\n)\n(if #[ 1 -1 0 19]\n(if #[ -1 1 0 -19]\n()\n()\n)\n()\n)\n)\n)\n") ([]) (ending 5 (codes "budget of splits 2"))
  case_96 : Writes (Least 3 (budget 1000000 100000 2 200)) (codes "(#[0 -3 -1 0])(()\n(newparm 3 (div #[ 0 2 1 4] 4))\n(newparm 4 (div #[ 1 0 1 1 3] 2))\n(if #[ 1 0 -2 2 -1 -4]\n()\n(list\n#[ 0 -1 1 0 1/3 -2/3]\n)\n)\n)\n((t)\n(newparm 3 (div #[ 0 2 1 4] 4))\n(newparm 4 (div #[ 1 0 1 1 3] 2))\n(if #[ 1 0 -2 2 -1 -4]\n()\n(list\n#[ 0 -1 1 0 1/3 -2/3]\n)\n)\n)\n()((s)\n(if #[ 2 -2 1 21]\n(if #[ -2 2 -1 -21]\n(list\n#[ 0 0 0 0]\n#[ 0 0 0 0]\n)\n(newparm 3 (div #[ 1 2 2 0] 3))\n(if #[ -1 -2 -2 3 0]\n(list\n#[ 0 0 0 0 0]\n#[ 1 0 1 -1 7]\n)\n(if #[ 0 -2 -1 2 7]\n(newparm 4 (div #[ 1 0 0 1 0] 2))\n(if #[ -1 0 0 -1 2 0]\n(list\n#[ 1 1 1 -1 -1 0]\n#[ 0 -2 -1 2 0 7]\n)\n(if #[ -2 -2 -1 0 4 7]\n(list\n#[ 2 1 1 0 -3 0]\n#[ -2 -2 -1 0 4 7]\n)\n()\n)\n)\n()\n)\n)\n)\n()\n)\n)\n((t)\n(if #[ 2 -2 1 21]\n(if #[ -2 2 -1 -21]\n(list\n#[ 0 0 0 0]\n#[ 0 0 0 0]\n)\n(newparm 3 (div #[ 1 2 2 0] 3))\n(if #[ -1 -2 -2 3 0]\n(list\n#[ 0 0 0 0 0]\n#[ 1 0 1 -1 7]\n)\n(if #[ 0 -2 -1 2 7]\n(newparm 4 (div #[ 1 0 0 1 0] 2))\n(if #[ -1 0 0 -1 2 0]\n(list\n#[ 1 1 1 -1 -1 0]\n#[ 0 -2 -1 2 0 7]\n)\n(if #[ -2 -2 -1 0 4 7]\n(list\n#[ 2 1 1 0 -3 0]\n#[ -2 -2 -1 0 4 7]\n)\n()\n)\n)\n()\n)\n)\n)\n()\n)\n)\n") ((codes "(()\n(newparm 3 (div #[ 0 2 1 4] 4))\n(newparm 4 (div #[ 1 0 1 1 3] 2))\n(if #[ 1 0 -2 2 -1 -4]\n(newparm 5 (div #[ 0 2 1 0 0 4] 4))\n(newparm 6 (div #[ 1 0 1 0 0 1 3] 2))\n()\n(newparm 5 (div #[ 0 2 1 0 0 4] 4))\n(newparm 6 (div #[ 1 0 1 0 0 1 3] 2))\n(list\n#[ 0 -1 1 0 1/3 0 0 -2/3]\n)\n)\n)\n") ∷ []) (ending 5 (codes "budget of splits 2"))
  case_100 : Writes (Same 1 (budget 1000000 100000 10000 200)) (codes "(#[3 -4] #[3 -5])((s)\n()\n)\n((s)\nvoid\n)\n(#[-1 6])(()\n(newparm 1 (div #[ 1 1] 1))\n()\n)\n((t)\n()\n)\n") ((codes "differ #[ 2]\n") ∷ (codes "same\n") ∷ []) finished
  case_104 : Writes (Same 0 (budget 1000000 100000 10000 200)) (codes "()((s)\n(list\n#[ 5]\n#[ 0]\n)\n)\n((c)\n(newparm 0 (div #[ 1] 3))\n(list\n#[ -1 -5]\n#[ -1 4]\n#[ 3 -3]\n)\n)\n(#[7] #[7])((s)\nvoid\n)\n(()\n(if #[ 0]\n(newparm 0 (div #[ 0] 2))\n(list\n#[ 0 -1/2]\n)\n(if #[ 2]\n(list\n#[ 3]\n)\n(list\n#[ -1]\n)\n)\n)\n)\n") ((codes "differ #[]\n") ∷ (codes "differ #[]\n") ∷ []) finished
  case_108 : Writes (Restrict 2 (budget 1000000 0 10000 200)) (codes "()((s)\n()\n)\n") ((codes "((s)\n()\n)\n") ∷ []) finished
  case_112 : Writes (Restrict 2 (budget 1000000 100000 10000 200)) (codes "(#[-2 3 -5] #[-3 -2 9])((a (b))\n(if #[ 1 2 0]\n(if #[ -1 1 1]\n(newparm 2 (div #[ 0 1 1] 4))\n(list\n#[ -2 3 -3 -5]\n)\n(list\n#[ -2 -1 5]\n)\n)\n()\n)\n)\n") ((codes "((a (b))\n(newparm 2 (div #[ 0 1 1] 4))\n(list\n#[ -2 3 -3 -5]\n)\n)\n") ∷ []) finished
  case_116 : Writes (Restrict 0 (budget 1000000 100000 10000 200)) (codes "()((s)\nvoid\n)\n()((s)\n(\n)\n") ((codes "((s)\nvoid\n)\n") ∷ []) (ending 2 (codes "syntax at byte 25"))
  case_120 : Writes (Restrict 3 (budget 0 100000 10000 200)) (codes "()((s)\n(if #[ -2 -4 -3 13]\n(list\n#[ 0 0 0 0]\n#[ 0 0 0 0]\n)\n()\n)\n)\n") ([]) (ending 5 (codes "budget of pivots 0"))
  case_124 : Writes (Same 1 (budget 1000000 100000 10000 200)) (codes "()((s)\n(list\n#[ 0 0]\n#[ 0 0]\n)\n)\n((s)\n(newparm 1 (div #[ 1 1] 2))\n(list\n#[ 0 0 0]\n#[ 2 -1 2]\n#[ 0 0 0]\n)\n)\n") ((codes "differ #[ 0]\n") ∷ []) finished
  case_128 : Writes (Restrict 0 (budget 1000000 100000 10000 200)) (codes "(#[8] #[7])((s)\n(list\n#[ 0]\n#[ 0]\n#[ 0]\n)\n)\n") ((codes "((s)\n(list\n#[ 0]\n#[ 0]\n#[ 0]\n)\n)\n") ∷ []) finished

more_tools_hold : MoreToolsHold
unfolding digits
more_tools_hold = record {
  case_68 = refl;
  case_72 = refl;
  case_76 = refl;
  case_80 = refl;
  case_84 = refl;
  case_88 = refl;
  case_92 = refl;
  case_95 = refl;
  case_96 = refl;
  case_100 = refl;
  case_104 = refl;
  case_108 = refl;
  case_112 = refl;
  case_116 = refl;
  case_120 = refl;
  case_124 = refl;
  case_128 = refl;
}
