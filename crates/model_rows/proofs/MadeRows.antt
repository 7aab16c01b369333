-- Problems and the certificates of their answers, which an independent program in another language gave.
use Rattle.model_rows.proofs.Words.{refl, ℕ, true, false, [], ◌∷◌, codes, ending, finished, Command, Solve, Writes, digits}

abbrev within : ℕ → ℕ → ℕ → ℕ → Command
within p c s n = Solve (record { polylib = false; simplify = false; certificate = true; budget = record { pivots = p; cuts = c; splits = s; nesting = n } })

abbrev matrix_within : ℕ → ℕ → ℕ → ℕ → Command
matrix_within p c s n = Solve (record { polylib = true; simplify = false; certificate = true; budget = record { pivots = p; cuts = c; splits = s; nesting = n } })

record MadeRowsHold : Type 0 where
  -- worked rows
  made_0 : Writes (within 1000000 100000 10000 200) (codes "") ([]) finished
  made_5 : Writes (within 1000000 100000 10000 200) (codes "((n) 1 0 2 0 -1 1 (#[1 -3] #[-1 2]) ())") ((codes "((n)\n()\n)\n(certificate 1 #[]\n(\n((1 2 1 1 1))\n)\n)\n") ∷ []) finished
  made_9 : Writes (matrix_within 1000000 100000 10000 200) (codes "0 3\n-1\n1 4\n0 2 -1 0\n") ((codes "(()\n(if #[ -1 0]\n(list\n#[ 0 0]\n)\n(newparm 1 (div #[ 1 0] 2))\n(if #[ -1 2 0]\n(list\n#[ 1 -1 0]\n)\n()\n)\n)\n)\n(certificate 1 #[ 0]\n(\n((1 1 1 2 1))\n((1 2 1 0 1))\n((1 2 1))\n((1 5 1 2 1))\n)\n(\n((2 3 1 0 1)(1 2 1 5 1))\n((2 3 1 0 1)(1 5 1 4 1))\n((2 3 1 0 1)(1 2 1 1 1 5 2))\n((2 3 1 0 1)(1 8 2 4 1 6 1))\n)\n(\n((2 3 1 0 1)(2 1 1 6 1)(2 7 1 3 1)(1 6 1 4 1 10 2))\n)\n)\n") ∷ []) finished
  made_10 : Writes (within 1000000 100000 10000 200) (codes "((v) 1 1 0 1 -1 1 () (#[-1 -1]))") ((codes "((v)\nvoid\n)\n(certificate 1 void\n(\n((1 1 1 0 1))\n)\n)\n") ∷ []) finished
  made_12 : Writes (within 1000000 100000 10000 200) (codes "((w) 1 0 2 0 -1 1 (#[170141183460469231731687303715884105727 -3] #[170141183460469231731687303715884105727 -5]) ())") ([]) (ending 4 (codes "overflow"))
  made_15 : Writes (within 1000000 100000 10000 200) (codes "((u) 65 0 0 0 -1 1 () ())") ((codes "((u)\n(list\n#[ 0]\n#[ 0]\n#[ 0]\n#[ 0]\n#[ 0]\n#[ 0]\n#[ 0]\n#[ 0]\n#[ 0]\n#[ 0]\n#[ 0]\n#[ 0]\n#[ 0]\n#[ 0]\n#[ 0]\n#[ 0]\n#[ 0]\n#[ 0]\n#[ 0]\n#[ 0]\n#[ 0]\n#[ 0]\n#[ 0]\n#[ 0]\n#[ 0]\n#[ 0]\n#[ 0]\n#[ 0]\n#[ 0]\n#[ 0]\n#[ 0]\n#[ 0]\n#[ 0]\n#[ 0]\n#[ 0]\n#[ 0]\n#[ 0]\n#[ 0]\n#[ 0]\n#[ 0]\n#[ 0]\n#[ 0]\n#[ 0]\n#[ 0]\n#[ 0]\n#[ 0]\n#[ 0]\n#[ 0]\n#[ 0]\n#[ 0]\n#[ 0]\n#[ 0]\n#[ 0]\n#[ 0]\n#[ 0]\n#[ 0]\n#[ 0]\n#[ 0]\n#[ 0]\n#[ 0]\n#[ 0]\n#[ 0]\n#[ 0]\n#[ 0]\n#[ 0]\n)\n)\n(certificate 1 #[]\n(\n((1 0 1))\n((1 0 1))\n((1 0 1))\n((1 0 1))\n((1 0 1))\n((1 0 1))\n((1 0 1))\n((1 0 1))\n((1 0 1))\n((1 0 1))\n((1 0 1))\n((1 0 1))\n((1 0 1))\n((1 0 1))\n((1 0 1))\n((1 0 1))\n((1 0 1))\n((1 0 1))\n((1 0 1))\n((1 0 1))\n((1 0 1))\n((1 0 1))\n((1 0 1))\n((1 0 1))\n((1 0 1))\n((1 0 1))\n((1 0 1))\n((1 0 1))\n((1 0 1))\n((1 0 1))\n((1 0 1))\n((1 0 1))\n((1 0 1))\n((1 0 1))\n((1 0 1))\n((1 0 1))\n((1 0 1))\n((1 0 1))\n((1 0 1))\n((1 0 1))\n((1 0 1))\n((1 0 1))\n((1 0 1))\n((1 0 1))\n((1 0 1))\n((1 0 1))\n((1 0 1))\n((1 0 1))\n((1 0 1))\n((1 0 1))\n((1 0 1))\n((1 0 1))\n((1 0 1))\n((1 0 1))\n((1 0 1))\n((1 0 1))\n((1 0 1))\n((1 0 1))\n((1 0 1))\n((1 0 1))\n((1 0 1))\n((1 0 1))\n((1 0 1))\n((1 0 1))\n((1 0 1))\n((1 65 1 0 1))\n((1 66 1 1 1))\n((1 67 1 2 1))\n((1 68 1 3 1))\n((1 69 1 4 1))\n((1 70 1 5 1))\n((1 71 1 6 1))\n((1 72 1 7 1))\n((1 73 1 8 1))\n((1 74 1 9 1))\n((1 75 1 10 1))\n((1 76 1 11 1))\n((1 77 1 12 1))\n((1 78 1 13 1))\n((1 79 1 14 1))\n((1 80 1 15 1))\n((1 81 1 16 1))\n((1 82 1 17 1))\n((1 83 1 18 1))\n((1 84 1 19 1))\n((1 85 1 20 1))\n((1 86 1 21 1))\n((1 87 1 22 1))\n((1 88 1 23 1))\n((1 89 1 24 1))\n((1 90 1 25 1))\n((1 91 1 26 1))\n((1 92 1 27 1))\n((1 93 1 28 1))\n((1 94 1 29 1))\n((1 95 1 30 1))\n((1 96 1 31 1))\n((1 97 1 32 1))\n((1 98 1 33 1))\n((1 99 1 34 1))\n((1 100 1 35 1))\n((1 101 1 36 1))\n((1 102 1 37 1))\n((1 103 1 38 1))\n((1 104 1 39 1))\n((1 105 1 40 1))\n((1 106 1 41 1))\n((1 107 1 42 1))\n((1 108 1 43 1))\n((1 109 1 44 1))\n((1 110 1 45 1))\n((1 111 1 46 1))\n((1 112 1 47 1))\n((1 113 1 48 1))\n((1 114 1 49 1))\n((1 115 1 50 1))\n((1 116 1 51 1))\n((1 117 1 52 1))\n((1 118 1 53 1))\n((1 119 1 54 1))\n((1 120 1 55 1))\n((1 121 1 56 1))\n((1 122 1 57 1))\n((1 123 1 58 1))\n((1 124 1 59 1))\n((1 125 1 60 1))\n((1 126 1 61 1))\n((1 127 1 62 1))\n((1 128 1 63 1))\n((1 129 1 64 1))\n)\n)\n") ∷ []) finished
  made_18 : Writes (matrix_within 1000000 100000 10000 200) (codes "0 2\n-1\n1 3\n1 2 -3\nRational\n") ([]) (ending 3 (codes "unsupported rational certificate"))
  made_20 : Writes (within 1000000 100000 10000 200) (codes "((k) 2 0 1 0 -1 1 (#[2 -1 -1]) ())") ((codes "((k)\n(list\n#[ 1]\n#[ 0]\n)\n)\n(certificate 1 #[]\n(\n((1 0 1))\n((1 0 1))\n((1 0 1))\n((1 3 2 2 1 1 1))\n((1 4 1 1 1))\n)\n)\n") ∷ []) finished
  made_25 : Writes (within 1000000 100000 10000 200) (codes "((t) 2 1 2 0 -1 1 (#[3 0 0 -1] #[0 3 0 -1]) ())") ((codes "((t)\n(if #[ -1 0]\n(list\n#[ 0 0]\n#[ 0 0]\n)\n(newparm 1 (div #[ 2 0] 3))\n(if #[ -2 3 0]\n(list\n#[ 1 -1 0]\n#[ 1 -1 0]\n)\n(list\n#[ 1 -1 0]\n#[ 1 -1 0]\n)\n)\n)\n)\n(certificate 1 #[ 0]\n(\n((1 1 1 2 1))\n((1 1 1 2 1))\n((1 2 1))\n((1 2 1))\n((1 6 1 2 1))\n((1 7 1 3 1))\n)\n(\n((3 3 1 0 2)(1 2 1 5 1))\n((3 3 1 0 2)(1 2 1 5 1))\n((3 3 1 0 2)(1 2 1 1 1 5 3))\n((3 3 1 0 2)(1 2 1 1 1 5 3))\n((3 3 1 0 2)(1 9 3 4 1 7 1))\n((3 3 1 0 2)(1 10 3 4 1 8 1))\n)\n(\n((3 3 1 0 2)(1 2 1 5 1))\n((3 3 1 0 2)(1 2 1 5 1))\n((3 3 1 0 2)(1 2 1 1 1 5 3))\n((3 3 1 0 2)(1 2 1 1 1 5 3))\n((3 3 1 0 2)(1 3 1 9 3 7 1))\n((3 3 1 0 2)(1 3 1 10 3 8 1))\n)\n)\n") ∷ []) finished
  -- random problems
  made_35 : Writes (within 80 100 100 100) (codes "((q) 2 2 3 2 -1 1 (#[-3 0 -2 1 2] #[1 -3 1 -2 1] #[1 -3 0 2 3]) (#[-1 2 1] #[2 3 0]))") ([]) (ending 5 (codes "budget of pivots 80"))
  made_40 : Writes (within 2000 100 100 100) (codes "((q) 1 1 3 0 -1 0 (#[8 -5 0] #[3 5 -1] #[-3 8 2]) ())") ([]) (ending 3 (codes "unsupported rational certificate"))
  made_43 : Writes (within 2000 100 100 100) (codes "((q) 2 2 3 0 -1 1 (#[2 -2 2 1 0] #[2 3 2 -2 -3] #[2 3 3 1 0]) ())") ([]) (ending 5 (codes "budget of cuts 100"))
  made_45 : Writes (within 2000 100 100 100) (codes "((q) 2 0 0 0 -1 1 () ())") ((codes "((q)\n(list\n#[ 0]\n#[ 0]\n)\n)\n(certificate 1 #[]\n(\n((1 0 1))\n((1 0 1))\n((1 2 1 0 1))\n((1 3 1 1 1))\n)\n)\n") ∷ []) finished
  made_50 : Writes (within 2000 100 100 100) (codes "((q) 2 1 3 1 -1 1 (#[3 -4 3 2] #[3 3 0 0] #[-2 -2 -5 -1]) (#[2 -2]))") ((codes "((q)\n()\n)\n(certificate 1 #[ 1]\n(\n((1 6 2 1 1 2 4 3 4))\n)\n)\n") ∷ []) finished
  made_55 : Writes (within 2000 100 100 100) (codes "((q) 2 0 2 2 -1 1 (#[5 3 -5] #[-2 4 1]) (#[5] #[-1]))") ((codes "((q)\nvoid\n)\n(certificate 1 void\n(\n((1 1 1))\n)\n)\n") ∷ []) finished
  made_60 : Writes (within 2000 100 100 100) (codes "((q) 1 2 1 1 -1 1 (#[-8 -2 3 -8]) (#[0 2 -2]))") ((codes "((q)\n(if #[ 3 -8 -2]\n(list\n#[ 0 0 0]\n)\n()\n)\n)\n(certificate 1 #[ 0 1]\n(\n((1 4 1 3 1))\n((1 4 1))\n((1 6 1 4 1))\n)\n(\n((1 3 1 5 1 4 8))\n)\n)\n") ∷ []) finished
  made_65 : Writes (within 2000 100 100 100) (codes "((q) 1 2 0 1 -1 1 () (#[2685888273319361143818432639666953656 1829500656560469009870830536850139245 -1173451987859932211025199344080593000]))") ((codes "((q)\n(list\n#[ 0 0 0]\n)\n)\n(certificate 1 #[ 0 1]\n(\n((1 3 1))\n((1 4 1 3 1))\n)\n)\n") ∷ []) finished
  made_70 : Writes (within 20 5 100 100) (codes "((q) 2 0 1 0 -1 1 (#[4 -3 1]) ())") ((codes "((q)\n(list\n#[ 0]\n#[ 0]\n)\n)\n(certificate 1 #[]\n(\n((1 0 1))\n((1 0 1))\n((1 0 1))\n((1 3 1 0 1))\n((1 4 1 1 1))\n)\n)\n") ∷ []) finished
  made_75 : Writes (within 2000 100 100 100) (codes "((q) 1 1 1 2 -1 1 (#[-3 3 -3]) (#[2 1] #[3 -1]))") ((codes "((q)\n(if #[ -1 1]\n(list\n#[ 0 0]\n)\n()\n)\n)\n(certificate 1 #[ 1]\n(\n((1 3 3 4 1))\n((1 4 1))\n((1 6 1 4 1))\n)\n(\n((1 5 1 3 3 4 3))\n)\n)\n") ∷ []) finished
  made_80 : Writes (within 2000 100 100 100) (codes "((q) 1 0 3 0 -1 1 (#[3 1] #[3 2] #[0 -2]) ())") ((codes "((q)\n()\n)\n(certificate 1 #[]\n(\n((1 3 1))\n)\n)\n") ∷ []) finished
  made_85 : Writes (within 80 5 100 100) (codes "((q) 2 1 1 0 -1 1 (#[-3 7 -8 5]) ())") ((codes "((q)\n(if #[ 1 -2]\n(list\n#[ 0 0]\n#[ 0 0]\n)\n(newparm 1 (div #[ 5 6] 7))\n(list\n#[ 0 0 0]\n#[ 0 -1 2]\n)\n)\n)\n(certificate 1 #[ 0]\n(\n((1 2 1 1 5))\n((1 2 1))\n((1 2 1))\n((1 5 1 2 1))\n((1 6 1 3 1))\n)\n(\n((7 3 1 0 5)(1 2 1 4 1))\n((7 3 1 0 5)(1 4 1))\n((7 3 1 0 5)(1 1 5 2 1 4 7))\n((7 3 1 0 5)(1 7 1 4 1))\n((7 3 1 0 5)(1 3 1 8 7 4 3 6 1))\n)\n)\n") ∷ []) finished
  made_90 : Writes (within 3 1 100 100) (codes "((q) 2 1 0 1 -1 1 () (#[3 -2]))") ([]) (ending 5 (codes "budget of pivots 3"))

made_rows_hold : MadeRowsHold
unfolding digits
made_rows_hold = record {
  made_0 = refl;
  made_5 = refl;
  made_9 = refl;
  made_10 = refl;
  made_12 = refl;
  made_15 = refl;
  made_18 = refl;
  made_20 = refl;
  made_25 = refl;
  made_35 = refl;
  made_40 = refl;
  made_43 = refl;
  made_45 = refl;
  made_50 = refl;
  made_55 = refl;
  made_60 = refl;
  made_65 = refl;
  made_70 = refl;
  made_75 = refl;
  made_80 = refl;
  made_85 = refl;
  made_90 = refl;
}
