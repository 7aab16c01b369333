-- Certificates of both formats and their check: texts and ends that an independent program gave.
use Rattle.model_rows.proofs.Words.{refl, [], ◌∷◌, codes, ending, finished, CheckAll, Writes, digits}

record CertificateRowsHold : Type 0 where
  format_0 : Writes CheckAll (codes "((a) 1 0 1 0 -1 1 (#[1 -3]) ())((a)\n(list\n#[ 3]\n)\n)\n(certificate 0 #[] (() () ((1 1 1 2 1))))") ([]) (ending 3 (codes "unsupported certificate 0"))
  format_minus_1 : Writes CheckAll (codes "((a) 1 0 1 0 -1 1 (#[1 -3]) ())((a)\n(list\n#[ 3]\n)\n)\n(certificate -1 #[] (() () ((1 1 1 2 1))))") ([]) (ending 3 (codes "unsupported certificate -1"))
  format_1_read_as_format_2 : Writes CheckAll (codes "((a) 1 0 1 0 -1 1 (#[1 -3]) ())((a)\n(list\n#[ 3]\n)\n)\n(certificate 2 #[] (() () ((1 1 1 2 1))))") ([]) (ending 10 (codes "rejected at leaf 1 refutation 0 step 0"))
  no_shared_group : Writes CheckAll (codes "((a) 1 0 1 0 -1 1 (#[1 -3]) ())((a)\n(list\n#[ 3]\n)\n)\n(certificate 2 #[] ())") ([]) (ending 2 (codes "syntax at byte 72"))
  leaf_of_shared_group_alone : Writes CheckAll (codes "((a) 1 0 1 0 -1 1 (#[1 -3]) ())((a)\n(list\n#[ 3]\n)\n)\n(certificate 2 #[] (()))") ([]) (ending 10 (codes "rejected at leaf 1 refutation 0 step 0"))
  shared_divisor : Writes CheckAll (codes "((v) 1 1 0 2 -1 1 () (#[2 -1] #[-2 1]))((v)\nvoid\n)\n(certificate 2 void (((0 1 1)) ((1 2 1 3 2))))") ([]) (ending 10 (codes "rejected at leaf 1 refutation 0 step 1"))
  shared_divisibility : Writes CheckAll (codes "((v) 1 1 0 2 -1 1 () (#[2 -1] #[-2 1]))((v)\nvoid\n)\n(certificate 2 void (((3 1 1)) ((1 2 1 3 2))))") ([]) (ending 10 (codes "rejected at leaf 1 refutation 0 step 1"))
  shared_multiplier : Writes CheckAll (codes "((v) 1 1 0 2 -1 1 () (#[2 -1] #[-2 1]))((v)\nvoid\n)\n(certificate 2 void (((2 1 -1)) ((1 2 1 3 2))))") ([]) (ending 10 (codes "rejected at leaf 1 refutation 0 step 1"))
  shared_index : Writes CheckAll (codes "((v) 1 1 0 2 -1 1 () (#[2 -1] #[-2 1]))((v)\nvoid\n)\n(certificate 2 void (((2 3 1)) ((1 2 1 3 2))))") ([]) (ending 10 (codes "rejected at leaf 1 refutation 0 step 1"))
  second_shared_step : Writes CheckAll (codes "((v) 1 1 0 2 -1 1 () (#[2 -1] #[-2 1]))((v)\nvoid\n)\n(certificate 2 void (((2 1 1)(1 4 1)) ((1 2 1 3 2))))") ([]) (ending 10 (codes "rejected at leaf 1 refutation 0 step 2"))
  shared_step_too_wide : Writes CheckAll (codes "((v) 1 1 0 2 -1 1 () (#[2 -1] #[-2 1]))((v)\nvoid\n)\n(certificate 2 void (((2 1 170141183460469231731687303715884105727)) ((1 2 1 3 2))))") ([]) (ending 4 (codes "overflow at leaf 1 refutation 0 step 1"))
  void_by_shared_steps_alone : Writes CheckAll (codes "((v) 1 1 0 2 -1 1 () (#[2 -1] #[-2 1]))((v)\nvoid\n)\n(certificate 2 void (((2 1 1)(1 2 1 3 2)) ()))") (codes "accepted\n" ∷ []) finished
  shared_steps_use_no_goal : Writes CheckAll (codes "((a) 1 0 1 0 -1 1 (#[1 -3]) ())((a)\n(list\n#[ 3]\n)\n)\n(certificate 2 #[] (((1 0 1)) () () ()))") ([]) (ending 10 (codes "rejected at leaf 1 refutation 0 step 1"))
  quotient_constant_in_format_1 : Writes CheckAll (codes "((w) 1 1 0 0 -1 1 () ())((w)(newparm 1 (div #[0 -170141183460469231731687303715884105727] 2)) (list #[0 0 0]))(certificate 1 #[0] (() ()))") ([]) (ending 4 (codes "overflow at leaf 1 refutation 1 step 0"))
  quotient_constant_in_format_2 : Writes CheckAll (codes "((w) 1 1 0 0 -1 1 () ())((w)(newparm 1 (div #[0 -170141183460469231731687303715884105727] 2)) (list #[0 0 0]))(certificate 2 #[0] (() () ()))") ([]) (ending 4 (codes "overflow at leaf 1 refutation 0 step 0"))
  opposite_constant_in_format_1 : Writes CheckAll (codes "((w) 1 1 0 0 -1 1 () ())((w)(if #[0 170141183460469231731687303715884105727] (list #[0 0]) (list #[0 0])))(certificate 1 #[0] (() ((1 2 1 3 1))) (() ()))") ([]) (ending 4 (codes "overflow at leaf 2 refutation 1 step 0"))
  opposite_constant_in_format_2 : Writes CheckAll (codes "((w) 1 1 0 0 -1 1 () ())((w)(if #[0 170141183460469231731687303715884105727] (list #[0 0]) (list #[0 0])))(certificate 2 #[0] (() () ((1 2 1 3 1))) (() () ()))") ([]) (ending 4 (codes "overflow at leaf 2 refutation 0 step 0"))
  goal_constant_in_format_2 : Writes CheckAll (codes "((w) 1 1 0 0 -1 1 () ())((w)(list #[0 170141183460469231731687303715884105727]))(certificate 2 #[0] (() () ()))") ([]) (ending 4 (codes "overflow at leaf 1 refutation 1 step 0"))
  goal_constant_in_format_1 : Writes CheckAll (codes "((w) 1 1 0 0 -1 1 () ())((w)(list #[0 170141183460469231731687303715884105727]))(certificate 1 #[0] (() ()))") ([]) (ending 4 (codes "overflow at leaf 1 refutation 1 step 0"))
  number_of_refutations : Writes CheckAll (codes "((a) 1 0 1 0 -1 1 (#[1 -3]) ())((a)\n(list\n#[ 3]\n)\n)\n(certificate 2 #[] (() () ((1 1 1 2 1))))") ([]) (ending 10 (codes "rejected at leaf 1 refutation 0 step 0"))

certificate_rows_hold : CertificateRowsHold
unfolding digits
certificate_rows_hold = record {
  format_0 = refl;
  format_minus_1 = refl;
  format_1_read_as_format_2 = refl;
  no_shared_group = refl;
  leaf_of_shared_group_alone = refl;
  shared_divisor = refl;
  shared_divisibility = refl;
  shared_multiplier = refl;
  shared_index = refl;
  second_shared_step = refl;
  shared_step_too_wide = refl;
  void_by_shared_steps_alone = refl;
  shared_steps_use_no_goal = refl;
  quotient_constant_in_format_1 = refl;
  quotient_constant_in_format_2 = refl;
  opposite_constant_in_format_1 = refl;
  opposite_constant_in_format_2 = refl;
  goal_constant_in_format_2 = refl;
  goal_constant_in_format_1 = refl;
  number_of_refutations = refl;
}

record MoreCertificatesHold : Type 0 where
  formats_side_by_side : Writes CheckAll (codes "((a) 1 0 1 0 -1 1 (#[1 -3]) ())((a)\n(list\n#[ 3]\n)\n)\n(certificate 1 #[] (() () ((1 1 1 2 1))))((a) 1 0 1 0 -1 1 (#[1 -3]) ())((a)\n(list\n#[ 3]\n)\n)\n(certificate 2 #[]\n(\n()\n()\n()\n((1 1 1 2 1))\n)\n)\n((v) 1 1 0 2 -1 1 () (#[2 -1] #[-2 1]))((v)\nvoid\n)\n(certificate 1 void (((2 1 1) (1 2 1 3 2))))((v) 1 1 0 2 -1 1 () (#[2 -1] #[-2 1]))((v)\nvoid\n)\n(certificate 2 void\n(\n((2 1 1))\n((1 2 1 3 2))\n)\n)\n") (codes "accepted\n" ∷ codes "accepted\n" ∷ codes "accepted\n" ∷ codes "accepted\n" ∷ []) finished
  checked_0 : Writes CheckAll (codes "((#[ ] 1/2 void) 3 1 2 0 -1 1 (#[-2 -1 2 5 4] #[-1 -2 2 -1 -3]) () )((q)\n(newparm 1 (div #[ 1 1] 2))\n(if #[ -1 2 -1]\n(list\n#[ 0 0 0]\n#[ 0 0 0]\n#[ 2 -1 1]\n)\n(list\n#[ 0 0 0]\n#[ 0 0 0]\n#[ 2 -1 1]\n)\n)\n)\n(certificate 2 void\n(\n((2 2 1 0 1))\n((1 1 1 0 7 5 1))\n((1 1 1 5 1))\n((1 5 1))\n((1 5 1))\n((1 1 1 0 3 5 2))\n((1 10 1 5 1))\n((1 11 1 6 1))\n((1 12 2 3 1 5 1 6 2 9 1))\n)\n(\n((2 2 1 0 1))\n((1 1 1 0 7 5 1))\n((1 1 1 5 1))\n((1 5 1))\n((1 5 1))\n((1 1 1 0 3 5 2))\n((1 10 1 5 1))\n((1 11 1 6 1))\n((1 2 1 12 2 5 1 6 2 9 1))\n)\n)\n(( x y ) 2 2 1 0 -1 -3 (#[-4 0 5 -2 0]) ()\n)((q)\n(if #[ -1 0 2]\n(list\n#[ 0 0 0]\n#[ 0 0 0]\n)\n()\n)\n)\n(certificate 1 #[ 0 0]\n(\n((1 2 2 3 1))\n((1 3 1))\n((1 3 1))\n((1 6 1 3 1 1 170141183460469231731687303715884105727))\n((1 7 1 4 1))\n)\n(\n((1 5 1 2 2 3 4))\n)\n)\n") ([]) (ending 10 (codes "rejected at leaf 0 refutation 0 step 0"))
  checked_4 : Writes CheckAll (codes "((c) 2 1 4 1 -1 1 (#[4 -2 1 -1] #[4 0 2 -1] #[-4 0 -2 1] #[-6 2 3 1]) (#[1 6]))((q)\n(if #[ -1 1]\n()\n()\n)\n)\n(certificate 1 #[ 0]\n(\n()\n)\n(\n((1 7 1 5 1 4 2))\n)\n)\n") ([]) (ending 10 (codes "rejected at leaf 1 refutation 1 step 0"))
  checked_8 : Writes CheckAll (codes "((#[ ] 1/2 void) 2 1 2 0 -1 -3 (#[2 0 -3 0] #[1 -3 -2 0]) ()\n)((q)\n(list\n#[ 0 2]\n#[ 0 0]\n)\n)\n(certificate 2 #[ 0]\n(\n()\n((1 1 1))\n((1 1 1))\n((1 1 1))\n((1 1 1))\n((1 5 1 4 1 2 3))\n((1 6 1 2 1))\n)\n)\n(() 2 3 1 0 -1 1 (#[1 1 -5 0 0 0]) () )((q)\n(list\n#[ 0 0 0 0]\n#[ 0 0 0 5]\n)\n)\n(certificate 2 #[ 0 0 0]\n(\n()\n((1 3 1))\n((1 3 1))\n((1 3 1))\n((1 6 1 3 1))\n((1 6 1 7 1 5 1))\n)\n)\n") (codes "accepted\n" ∷ codes "accepted\n" ∷ []) finished
  checked_12 : Writes CheckAll (codes "(() 1 1 3 1 -1 0 (#[4 -12 0] #[-2 -1 0] #[0 14 -1]) (#[-2 -2])\n)((q)\nvoid\n)\n(certificate 1 void\n)\n") ([]) (ending 3 (codes "unsupported rational certificate"))
  checked_16 : Writes CheckAll (codes "((a (b) c) 2 1 1 0 -1 1 (#[4 0 -11 4]) ())((q)\n(if #[ 1 -3]\n(list\n#[ 0 0]\n#[ 0 0]\n)\n(list\n#[ -1 3]\n#[ 0 0]\n)\n)\n)\n") ([]) (ending 2 (codes "syntax at byte 113"))
  checked_20 : Writes CheckAll (codes "((c) 2 1 2 2 -1 1 (#[1 -1 10 -1] #[0 0 -2 2]) (#[1 0] #[1 6]))((q)\n(if #[ -1 10]\n(if #[ 1 -1]\n(list\n#[ 0 0]\n#[ 0 0]\n)\n()\n)\n(list\n#[ 1 -10]\n#[ 0 0]\n)\n)\n)\n(certificate 1 #[ 0]\n(\n((1 3 1 5 1))\n((1 5 1 4 2))\n((1 5 1))\n((1 5 1))\n((1 9 1 5 1))\n((1 10 1 6 1))\n)\n(\n((1 4 2 8 1))\n)\n(\n((1 4 1))\n((1 4 1 3 2))\n((1 4 1 3 1))\n((1 4 1))\n((1 8 1 6 1 5 1))\n((1 9 1 5 1))\n)\n)\n(( x y ) 2 1 5 0 -1 170141183460469231731687303715884105727 (#[-1 1 -7 0] #[1 -1 7 0] #[1 0 -29 0] #[0 2 -23 0] #[0 -2 23 0]) () )((q)\n()\n)\n(certificate 2 #[ 0]\n)\n") (codes "accepted\n" ∷ []) (ending 10 (codes "rejected at leaf 0 refutation 0 step 0"))
  checked_24 : Writes CheckAll (codes "((c) 3 1 5 1 -1 170141183460469231731687303715884105727 (#[3 0 0 -1 -2] #[-8 2 -6 5 0] #[-2 -9 -9 -5 1] #[0 -4 6 6 0] #[0 4 -6 -6 0]) (#[1 5])\n)((q)\n()\n)\n(certificate 1 #[ 0]\n(\n(1 7 3 0 1 5 2 3 27 4 170141183460469231731687303715884105727))\n)\n)\n") ([]) (ending 2 (codes "syntax at byte 178"))
  checked_28 : Writes CheckAll (codes "(() 3 0 5 0 -1 1 (#[-3 -2 -1 1] #[0 -3 1 -2] #[0 -2 4 -2] #[0 2 -4 2] #[-2 0 3 1]) ())((q)\n()\n)\n(certificate 1 #[]\n\n((1 3 1 0 3 1 5 4 1))\n)\n)\n") ([]) (ending 2 (codes "syntax at byte 118"))
  checked_32 : Writes CheckAll (codes "(( x y ) 3 2 1 0 -1 1 (#[-3 -2 3 -25 -1 0]) () )((q)\n(newparm 2 (div #[ 2 0 2] 3))\n(if #[ -2 0 3 -2]\n(list\n#[ 0 0 0 0]\n#[ 0 0 0 0]\n#[ 1 0 -1 9]\n)\n(list\n#[ 0 0 0 0]\n#[ 0 0 0 0]\n#[ 1 0 -1 9]\n)\n)\n)\n(certificate 2 #[ 0 0]\n(\n((3 3 1 0 2))\n((1 2 1 6 1))\n((1 6 1))\n((1 6 1))\n((1 2 1 0 1 6 3))\n((1 10 1 6 1))\n((1 11 1 7 1))\n((1 12 3 4 1 6 3 7 2 9 1))\n)\n(\n((3 3 1 0 2))\n((1 2 1 6 1))\n()\n((1 6 1))\n((1 2 1 0 1 6 3))\n((1 10 1 6 1))\n((1 11 1 7 1))\n((1 3 1 12 3 6 3 7 2 9 1))\n)\n)\n") (codes "accepted\n" ∷ []) finished
  checked_36 : Writes CheckAll (codes "(( x y ) 3 2 1 0 -1 -3 (#[1 0 1 -15 0 0]) ()\n)((q)\n(list\n#[ 0 0 0]\n#[ 0 G0 0]\n#[ 0 0 15]\n)\n)\n(certificate 2 #[ 0 0]\n(\n()\n((1 2 1))\n((1 2 1))\n((1 2 1))\n((1 2 1))\n((1 6 1 2 1))\n((1 7 1 3 1))\n((1 6 1 8 1 5 1))\n)\n)\n") ([]) (ending 2 (codes "syntax at byte 72"))
  checked_40 : Writes CheckAll (codes "(() 2 1 2 2 -1 170141183460469231731687303715884105727 (#[3 -3 12 1] #[-1 2 2 -2]) (#[2 -3] #[-2 3])\n)((q)\nvoid\n)\n(certificate 2 void\n(\n((2 1 1))\n((1 2 1 3 2))\n)\n)\n") (codes "accepted\n" ∷ []) finished
  checked_44 : Writes CheckAll (codes "(() 2 2 1 1 -1 2 (#[-2 0 1 2 2]) (#[-1 2 1]))((qlist\n(list\n#[ 0 0 0]\n#[ 0 0 0]\n)\n)\n(certificate 1 #[ 0 0]\n(\n((1 3 1 0 2 1 2))\n((1 3 1))\n((1 3 1))\n((1 6 1 3 1))\n((1 7 1 4 1))\n)\n)\n((c) 1 2 4 0 -1 2 (#[0 3 1 1] #[3 3 -1 -1] #[0 -2 0 1] #[-1 -3 0 0]) ())((q)\n()\n)\n(certificate 1 #[ 0 0]\n(\n((1 6 1 2 1))\n)\n)\n") ([]) (ending 2 (codes "syntax at byte 84"))
  checked_48 : Writes CheckAll (codes "((#[ ] 1/2 void) 3 1 2 2 -1 2 (#[-1 2 -1 5 0] #[0 -2 0 -2 0]) (#[1 -1] #[2 4]) )((q)\n()\n)\n(certificate 2 void\n(\n()\n((1 7 1 4 2))\n)\n)\n") ([]) (ending 10 (codes "rejected at leaf 0 refutation 0 step 0"))
  checked_52 : Writes CheckAll (codes "(( x y ) 1 1 2 3 -1 2 (#[-2 2 -2] #[2 -1 1]) (#[-2 5] #[0 -4] #[0 4])\n)((q)\nvoid\n)\n(certificate 1 void\n((( x y ) 1 1 4 0 -1 170141183460469231731687303715884105727 (#[3 -2 4] #[0 2 -1] #[-1 -6 0] #[4 7 3]) ())(())\n(q\n)\n(certificate 1 #[ 0 0]\n(\n((1 1 1 4 1))\n)\n)\n") ([]) (ending 2 (codes "syntax at byte 107"))
  checked_56 : Writes CheckAll (codes "((#[ ] 1/2 void) 2 2 3 0 -1 170141183460469231731687303715884105727 (#[-2 -1 1 0 1] #[2 1 -1 0 -1] #[-1 2 -1 0 1]) () )((q)\n(list\n#[ 0 0 0]\n#[ 0 1 1]\n)\n)\n(certificate 1 #[ 0 0]\n(\n((1 2E 1))\n((1 2 1))\n((1 2 1 1 3))\n((1 2 1))\n((1 2 1 1 1))\n((1 7 1 2 1))\n((1 7 2 8 1 5 1))\n)\n)\n") ([]) (ending 2 (codes "syntax at byte 184"))
  checked_60 : Writes CheckAll (codes "(( x y ) 1 1 1 2 -1 170141183460469231731687303715884105727 (#[-3 1 0]) (#[0 -6] #[0 6])\n)((q)\nvoid\n)\n") ([]) (ending 2 (codes "syntax at byte 102"))
  checked_64 : Writes CheckAll (codes "((a (b) c) 1 0 1 0 -1 -3 (#[1 ((q)\n(list\n#[ 8]\n)\n)\n(certificate 2 #[]\n(\n()\n((2 0 1))\n((1 0 1))\n((1 2 1 1 1))\n)\n)\n") ([]) (ending 2 (codes "syntax at byte 30"))
  checked_68 : Writes CheckAll (codes "((#[ ] 1/2 void) 2 0 4 2 -1 -3 (#[-1 0 -3] #[0 4 8] #[3 -3 15] #[2 -1 6]) (#[1] #[-6])\n)((q)\nvoid\n)\n(certificate 1 #[]\n(\n((1 1 1))\n)\n)\n") ([]) (ending 10 (codes "rejected at leaf 0 refutation 0 step 0"))

more_certificates_hold : MoreCertificatesHold
unfolding digits
more_certificates_hold = record {
  formats_side_by_side = refl;
  checked_0 = refl;
  checked_4 = refl;
  checked_8 = refl;
  checked_12 = refl;
  checked_16 = refl;
  checked_20 = refl;
  checked_24 = refl;
  checked_28 = refl;
  checked_32 = refl;
  checked_36 = refl;
  checked_40 = refl;
  checked_44 = refl;
  checked_48 = refl;
  checked_52 = refl;
  checked_56 = refl;
  checked_60 = refl;
  checked_64 = refl;
  checked_68 = refl;
}
