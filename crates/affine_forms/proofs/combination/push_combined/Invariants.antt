use Rattle.affine_forms.proofs.Words.{◌≡◌, ◌≤◌, length, drop, take, ◌++◌, All, combine, combine_listed, all_fit, Fits}
use Rattle.affine_forms.proofs.combination.push_combined.Given as goal

abbrev pub invariant-loop-i : goal.invariant-loop-i
invariant-loop-i l =
    (all_fit (combine_listed l.a (drop l.i l.r) l.b (drop l.i l.s)) ≡ all_fit (combine_listed l.a l.r l.b l.s))
    × (l.out.items ++ combine l.a (drop l.i l.r) l.b (drop l.i l.s) ≡ l.fn.out.items ++ combine l.a l.r l.b l.s)
    × All Fits l.out.items
    × (length l.fn.out.items ≤ length l.out.items)
    × (take (length l.fn.out.items) l.out.items ≡ l.fn.out.items)
