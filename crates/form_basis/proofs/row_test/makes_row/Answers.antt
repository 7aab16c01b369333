use Rattle.form_basis.proofs.Words.{rules, arith, ◌≡◌, ℕ, ◌+◌, ◌<◌, ◌*ℤ◌, entry, summed, valued}
use Rattle.form_basis.proofs.MadeRows.{row_made}
use Rattle.form_basis.proofs.row_test.makes_row.Goals as goal

pub returns : goal.returns
returns c = λ is.
    let coefs : (j : ℕ) → j < c.args.places.now.unknowns → summed c.args.places.now c.args.basis.now c.args.form.now j *ℤ entry c.args.row.now 0 ≡ entry c.args.row.now (j + 1) *ℤ c.args.basis.now.scale
    = λ j lt. let e = c.loop-k.invariant j (let n = c.unknowns-n.ensures in let f = c.loop-k-test.false in omega (arith, lt, n, f)) in search (rules, e) in
    let last : valued c.args.places.now c.args.basis.now c.args.form.now *ℤ entry c.args.row.now 0 ≡ entry c.args.row.now (c.args.places.now.unknowns + 1) *ℤ c.args.basis.now.scale = let e = c.are_same-2.ensures is in search (rules, e) in
    row_made c.args.places.now c.args.basis.now c.args.form.now c.requires.read c.args.row.now c.requires.size coefs last c.requires.den
