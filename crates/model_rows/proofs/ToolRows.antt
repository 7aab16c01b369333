-- Commands on trees, row by row, from bytes to texts and ends.
use Rattle.model_rows.proofs.Words.{refl, ℕ, [], ◌∷◌, codes, Budget, ending, finished, Restrict, Same, Least, Pieces, Writes, digits}

abbrev budget : ℕ → ℕ → ℕ → ℕ → Budget
budget p c s n = record { pivots = p; cuts = c; splits = s; nesting = n }

record ToolRowsHold : Type 0 where
  restrict_3 : Writes (Restrict 1 (budget 1000000 100000 10000 200)) (codes "()((e) (newparm 1 (div #[-1 0] 2)) (list #[0 1 0]))") ([]) (ending 11 (codes "negative quotient"))
  void_answer_makes_the_point : Writes (Restrict 1 (budget 0 100000 10000 200)) (codes "(#[1 -1])((c) void)") ([]) (ending 5 (codes "budget of pivots 0"))
  void_answer_stays : Writes (Restrict 1 (budget 1000000 100000 10000 200)) (codes "(#[1 -1])((c) void)") ((codes "((c)\nvoid\n)\n") ∷ []) finished
  differ_makes_the_point_again : Writes (Same 1 (budget 1 100000 10000 200)) (codes "(#[1 -1])((a) ())((b) void)") ([]) (ending 5 (codes "budget of pivots 1"))
  differ_at_the_point : Writes (Same 1 (budget 2 100000 10000 200)) (codes "(#[1 -1])((a) ())((b) void)") ((codes "differ #[ 1]\n") ∷ []) finished
  both_void : Writes (Same 1 (budget 1000000 100000 10000 200)) (codes "()((a) void)((b) void)") ((codes "same\n") ∷ []) finished
  least_of_voids : Writes (Least 1 (budget 1000000 100000 10000 200)) (codes "()((a) void)((b) void)") ((codes "((a)\n()\n)\n") ∷ []) finished
  least_of_void_and_list : Writes (Least 1 (budget 1000000 100000 10000 200)) (codes "()((a) void)((b) (list #[1 0]))") ((codes "((a)\n(list\n#[ 1 0]\n)\n)\n") ∷ []) finished
  least_in_an_empty_context : Writes (Least 1 (budget 1000000 100000 10000 200)) (codes "(#[-1 -1])((a) (list #[1 0]))((b) (list #[0 0]))") ((codes "((a)\nvoid\n)\n") ∷ []) finished
  half_and_third : Writes (Least 1 (budget 1000000 100000 10000 200)) (codes "()((a) (list #[1/2 0]))((b) (list #[1/3 1]))") ((codes "((a)\n(if #[ 1 -6]\n(if #[ -1 6]\n(list\n#[ 1/2 0]\n)\n(list\n#[ 1/3 1]\n)\n)\n(list\n#[ 1/2 0]\n)\n)\n)\n") ∷ []) finished
  halves_are_the_same : Writes (Same 1 (budget 1000000 100000 10000 200)) (codes "()((a) (list #[1/2 0]))((b) (if #[1 -3] (list #[2/4 0]) (list #[1/2 0])))") ((codes "same\n") ∷ []) finished
  second_component_decides : Writes (Least 1 (budget 1000000 100000 10000 200)) (codes "()((a) (list #[0 1] #[1 0]))((b) (list #[0 1] #[0 2]))") ((codes "((a)\n(if #[ 1 -2]\n(if #[ -1 2]\n(list\n#[ 0 1]\n#[ 1 0]\n)\n(list\n#[ 0 1]\n#[ 0 2]\n)\n)\n(list\n#[ 0 1]\n#[ 1 0]\n)\n)\n)\n") ∷ []) finished
  own_quotients_behind_the_others : Writes (Least 1 (budget 1000000 100000 10000 200)) (codes "()((a) (newparm 1 (div #[1 0] 2)) (list #[0 1 0]))((b) (newparm 1 (div #[1 0] 3)) (list #[0 1 1]))") ((codes "((a)\n(newparm 1 (div #[ 1 0] 2))\n(newparm 2 (div #[ 1 0 0] 3))\n(if #[ 0 1 -1 -1]\n(if #[ 0 -1 1 1]\n(list\n#[ 0 1 0 0]\n)\n(list\n#[ 0 0 1 1]\n)\n)\n(list\n#[ 0 1 0 0]\n)\n)\n)\n") ∷ []) finished
  same_negative_in_the_second : Writes (Same 1 (budget 1000000 100000 10000 200)) (codes "()((a) (list #[0 0]))((b) (newparm 1 (div #[1 -1] 2)) (list #[0 0 0]))") ([]) (ending 11 (codes "negative quotient"))
  least_negative_in_the_first : Writes (Least 1 (budget 1000000 100000 10000 200)) (codes "()((a) (newparm 1 (div #[-1 0] 2)) (list #[0 0 0]))((b) (list #[0 0]))") ([]) (ending 11 (codes "negative quotient"))
  nesting_of_least : Writes (Least 1 (budget 1000000 100000 10000 0)) (codes "()((a) (list #[1 0]))((b) (list #[0 3]))") ([]) (ending 5 (codes "budget of nesting 0"))
  splits_before_nesting : Writes (Least 1 (budget 1000000 100000 0 0)) (codes "()((a) (list #[1 0]))((b) (list #[0 3]))") ([]) (ending 5 (codes "budget of splits 0"))
  nesting_of_a_newparm : Writes (Least 1 (budget 1000000 100000 10000 0)) (codes "()((a) (newparm 1 (div #[1 0] 2)) (list #[0 1 0]))((b) ())") ([]) (ending 5 (codes "budget of nesting 0"))
  no_item : Writes (Restrict 1 (budget 1000000 100000 10000 200)) (codes "x y )") ([]) finished
  short_row : Writes (Restrict 1 (budget 1000000 100000 10000 200)) (codes "(#[1])((c) ())") ([]) (ending 2 (codes "syntax at byte 4"))
  wide_row : Writes (Restrict 1 (budget 1000000 100000 10000 200)) (codes "(#[1 170141183460469231731687303715884105728])((c) ())") ([]) (ending 9 (codes "number too wide at byte 5"))
  context_alone : Writes (Restrict 1 (budget 1000000 100000 10000 200)) (codes "(#[1 0]) ") ([]) (ending 2 (codes "syntax at byte 9"))
  one_answer_of_two : Writes (Same 1 (budget 1000000 100000 10000 200)) (codes "(#[1 0])((c) ())") ([]) (ending 2 (codes "syntax at byte 16"))
  open_context : Writes (Least 1 (budget 1000000 100000 10000 200)) (codes "(#[1 0]") ([]) (ending 2 (codes "syntax at byte 7"))
  fraction_in_a_row : Writes (Same 1 (budget 1000000 100000 10000 200)) (codes "(#[1/2 0])((c) ())((d) ())") ([]) (ending 2 (codes "syntax at byte 3"))
  too_many_rows : Writes (Restrict 0 (budget 1000000 100000 10000 200)) (codes "(#[0]#[0]#[0]#[0]#[0]#[0]#[0]#[0]#[0]#[0]#[0]#[0]#[0]#[0]#[0]#[0]#[0]#[0]#[0]#[0]#[0]#[0]#[0]#[0]#[0]#[0]#[0]#[0]#[0]#[0]#[0]#[0]#[0]#[0]#[0]#[0]#[0]#[0]#[0]#[0]#[0]#[0]#[0]#[0]#[0]#[0]#[0]#[0]#[0]#[0]#[0]#[0]#[0]#[0]#[0]#[0]#[0]#[0]#[0]#[0]#[0]#[0]#[0]#[0]#[0]#[0]#[0]#[0]#[0]#[0]#[0]#[0]#[0]#[0]#[0]#[0]#[0]#[0]#[0]#[0]#[0]#[0]#[0]#[0]#[0]#[0]#[0]#[0]#[0]#[0]#[0]#[0]#[0]#[0]#[0]#[0]#[0]#[0]#[0]#[0]#[0]#[0]#[0]#[0]#[0]#[0]#[0]#[0]#[0]#[0]#[0]#[0]#[0]#[0]#[0]#[0]#[0]#[0]#[0]#[0]#[0]#[0]#[0]#[0]#[0]#[0]#[0]#[0]#[0]#[0]#[0]#[0]#[0]#[0]#[0]#[0]#[0]#[0]#[0]#[0]#[0]#[0]#[0]#[0]#[0]#[0]#[0]#[0]#[0]#[0]#[0]#[0]#[0]#[0]#[0]#[0]#[0]#[0]#[0]#[0]#[0]#[0]#[0]#[0]#[0]#[0]#[0]#[0]#[0]#[0]#[0]#[0]#[0]#[0]#[0]#[0]#[0]#[0]#[0]#[0]#[0]#[0]#[0]#[0]#[0]#[0]#[0]#[0]#[0]#[0]#[0]#[0]#[0]#[0]#[0]#[0]#[0]#[0]#[0]#[0]#[0]#[0]#[0]#[0]#[0]#[0]#[0]#[0]#[0]#[0]#[0]#[0]#[0]#[0]#[0]#[0]#[0]#[0]#[0]#[0]#[0]#[0]#[0]#[0]#[0]#[0]#[0]#[0]#[0]#[0]#[0]#[0]#[0]#[0]#[0]#[0]#[0]#[0]#[0]#[0]#[0]#[0]#[0]#[0]#[0]#[0]#[0]#[0]#[0]#[0]#[0]#[0]#[0]#[0]#[0]#[0]#[0])((c) ())") ([]) (ending 9 (codes "limit of context rows 257"))
  as_many_rows_as_there_may_be : Writes (Restrict 0 (budget 1000000 100000 10000 200)) (codes "(#[0]#[0]#[0]#[0]#[0]#[0]#[0]#[0]#[0]#[0]#[0]#[0]#[0]#[0]#[0]#[0]#[0]#[0]#[0]#[0]#[0]#[0]#[0]#[0]#[0]#[0]#[0]#[0]#[0]#[0]#[0]#[0]#[0]#[0]#[0]#[0]#[0]#[0]#[0]#[0]#[0]#[0]#[0]#[0]#[0]#[0]#[0]#[0]#[0]#[0]#[0]#[0]#[0]#[0]#[0]#[0]#[0]#[0]#[0]#[0]#[0]#[0]#[0]#[0]#[0]#[0]#[0]#[0]#[0]#[0]#[0]#[0]#[0]#[0]#[0]#[0]#[0]#[0]#[0]#[0]#[0]#[0]#[0]#[0]#[0]#[0]#[0]#[0]#[0]#[0]#[0]#[0]#[0]#[0]#[0]#[0]#[0]#[0]#[0]#[0]#[0]#[0]#[0]#[0]#[0]#[0]#[0]#[0]#[0]#[0]#[0]#[0]#[0]#[0]#[0]#[0]#[0]#[0]#[0]#[0]#[0]#[0]#[0]#[0]#[0]#[0]#[0]#[0]#[0]#[0]#[0]#[0]#[0]#[0]#[0]#[0]#[0]#[0]#[0]#[0]#[0]#[0]#[0]#[0]#[0]#[0]#[0]#[0]#[0]#[0]#[0]#[0]#[0]#[0]#[0]#[0]#[0]#[0]#[0]#[0]#[0]#[0]#[0]#[0]#[0]#[0]#[0]#[0]#[0]#[0]#[0]#[0]#[0]#[0]#[0]#[0]#[0]#[0]#[0]#[0]#[0]#[0]#[0]#[0]#[0]#[0]#[0]#[0]#[0]#[0]#[0]#[0]#[0]#[0]#[0]#[0]#[0]#[0]#[0]#[0]#[0]#[0]#[0]#[0]#[0]#[0]#[0]#[0]#[0]#[0]#[0]#[0]#[0]#[0]#[0]#[0]#[0]#[0]#[0]#[0]#[0]#[0]#[0]#[0]#[0]#[0]#[0]#[0]#[0]#[0]#[0]#[0]#[0]#[0]#[0]#[0]#[0]#[0]#[0]#[0]#[0]#[0]#[0]#[0]#[0]#[0]#[0]#[0]#[0]#[0]#[0]#[0]#[0]#[0]#[0]#[0])((c) ())") ((codes "((c)\n()\n)\n") ∷ []) finished
  two_items_and_a_refused_one : Writes (Same 1 (budget 1000000 100000 10000 200)) (codes "()((a) ())((b) ())(#[1 -2])((a) ())((b) (list #[1 0]))()((a) x") ((codes "same\n") ∷ (codes "differ #[ 2]\n") ∷ []) (ending 2 (codes "syntax at byte 61"))
  same_overflow : Writes (Same 1 (budget 1000000 100000 10000 200)) (codes "()((a) (list #[170141183460469231731687303715884105727 0]))((b) (list #[-170141183460469231731687303715884105727 0]))") ([]) (ending 4 (codes "overflow"))
  same_less_one_overflow : Writes (Same 1 (budget 1000000 100000 10000 200)) (codes "()((a) (list #[0 -170141183460469231731687303715884105727]))((b) (list #[0 0]))") ([]) (ending 4 (codes "overflow"))
  same_opposite_fits : Writes (Same 1 (budget 1000000 100000 10000 200)) (codes "()((a) (list #[0 170141183460469231731687303715884105727]))((b) (list #[0 0]))") ((codes "differ #[ 0]\n") ∷ []) finished
  least_overflow : Writes (Least 1 (budget 1000000 100000 10000 200)) (codes "()((a) (list #[170141183460469231731687303715884105727 0]))((b) (list #[-1 0]))") ([]) (ending 4 (codes "overflow"))
  restrict_bound_overflow : Writes (Restrict 1 (budget 1000000 100000 10000 200)) (codes "(#[1 -10])((a) (newparm 1 (div #[1 -5] 170141183460469231731687303715884105727)) (list #[0 1 0]))") ([]) (ending 4 (codes "overflow"))
  restrict_bound_fits : Writes (Restrict 1 (budget 1000000 100000 10000 200)) (codes "()((a) (newparm 1 (div #[1 1] 170141183460469231731687303715884105727)) (list #[0 1 0]))") ((codes "((a)\n(newparm 1 (div #[ 1 1] 170141183460469231731687303715884105727))\n(list\n#[ 0 1 0]\n)\n)\n") ∷ []) finished
  pieces_of_void : Writes (Pieces 1) (codes "((c) void)") ((codes "((c)\nvoid\n)\n") ∷ []) finished
  pieces_overflow : Writes (Pieces 1) (codes "((c) (if #[1 170141183460469231731687303715884105727] () ()))") ([]) (ending 4 (codes "overflow"))
  pieces_fraction : Writes (Pieces 1) (codes "((c) (if #[1 -3] (list #[1/2 0] #[0 1/3]) ()))") ((codes "((c)\n(piece\n(where #[ 1 -3])\n(list\n#[ 1/2 0]\n#[ 0 1/3]\n)\n)\n(piece\n(where #[ -1 2])\n()\n)\n)\n") ∷ []) finished

tool_rows_hold : ToolRowsHold
unfolding digits
tool_rows_hold = record {
  restrict_3 = refl;
  void_answer_makes_the_point = refl;
  void_answer_stays = refl;
  differ_makes_the_point_again = refl;
  differ_at_the_point = refl;
  both_void = refl;
  least_of_voids = refl;
  least_of_void_and_list = refl;
  least_in_an_empty_context = refl;
  half_and_third = refl;
  halves_are_the_same = refl;
  second_component_decides = refl;
  own_quotients_behind_the_others = refl;
  same_negative_in_the_second = refl;
  least_negative_in_the_first = refl;
  nesting_of_least = refl;
  splits_before_nesting = refl;
  nesting_of_a_newparm = refl;
  no_item = refl;
  short_row = refl;
  wide_row = refl;
  context_alone = refl;
  one_answer_of_two = refl;
  open_context = refl;
  fraction_in_a_row = refl;
  too_many_rows = refl;
  as_many_rows_as_there_may_be = refl;
  two_items_and_a_refused_one = refl;
  same_overflow = refl;
  same_less_one_overflow = refl;
  same_opposite_fits = refl;
  least_overflow = refl;
  restrict_bound_overflow = refl;
  restrict_bound_fits = refl;
  pieces_of_void = refl;
  pieces_overflow = refl;
  pieces_fraction = refl;
}
