use Rattle.short_tableau.proofs.Words.{rules, ◌≡◌, ◌∙◌, ap, ℤ, ◌∷◌, ◌++◌, take, take_at, take_all, arith, to_z, of_z, w64}
use Rattle.std.proofs.Common.{append_assoc, List}
use Rattle.std.specs.Prelude.{vec_len}
use Rattle.short_tableau.proofs.Cutting.{appended, none_claimed}
use Rattle.short_tableau.proofs.pushing.append_row.Goals as goal

pub returns-in_err-push : goal.returns-in_err-push
returns-in_err-push c = record {
  ok = none_claimed _ c.from_residual.result c.from_residual.ensures.0;
  front = ap (take (vec_len c.args.numbers.now)) c.in_err-push.ensures.items ∙ take_all (vec_len c.args.numbers.now) c.args.numbers.now.items (search rules);
}

pub returns-in_err-extend_from_slice : goal.returns-in_err-extend_from_slice
returns-in_err-extend_from_slice c = record {
  ok = none_claimed _ c.from_residual-in_err-extend_from_slice.result c.from_residual-in_err-extend_from_slice.ensures.0;
  front = ap (take (vec_len c.args.numbers.now)) (c.in_err-extend_from_slice.ensures.items ∙ c.in_ok-push.ensures.items) ∙ take_at c.args.numbers.now.items _ (vec_len c.args.numbers.now) (search rules);
}

pub returns-in_err-extend_from_slice-2 : goal.returns-in_err-extend_from_slice-2
returns-in_err-extend_from_slice-2 c = record {
  ok = none_claimed _ c.from_residual-in_err-extend_from_slice-2.result c.from_residual-in_err-extend_from_slice-2.ensures.0;
  front = ap (take (vec_len c.args.numbers.now)) (c.in_err-extend_from_slice-2.ensures.items ∙ c.in_ok-extend_from_slice.ensures.items ∙ ap (λ (zs : List ℤ). zs ++ c.args.row.now.coefs.now) c.in_ok-push.ensures.items ∙ append_assoc c.args.numbers.now.items _ _)
      ∙ take_at c.args.numbers.now.items _ (vec_len c.args.numbers.now) (search rules);
}

pub returns : goal.returns
returns c =
    let same : to_z w64 (of_z w64 c.args.row.now.den) ≡ c.args.row.now.den = search rules in
    let made = appended _ _ _ _ _ _ _ c.in_ok-push.ensures.items c.in_ok-extend_from_slice.ensures.items c.in_ok-extend_from_slice-2.ensures.items
    ∙ ap (λ (z : ℤ). c.args.numbers.now.items ++ z ∷ (c.args.row.now.coefs.now ++ c.args.row.now.constant.now)) same in
    record { ok = made; front = ap (take (vec_len c.args.numbers.now)) made ∙ take_at c.args.numbers.now.items _ (vec_len c.args.numbers.now) (search rules) }
