use Rattle.short_row.proofs.Words.{rules, ◌≡◌, ◌∙◌, ap, sym, List, ℤ, pos, [], ◌∷◌, ◌++◌, get_or, take_more}
use Rattle.short_row.proofs.wide.widen_numbers.Goals as goal

pub loop-number-preserved : goal.loop-number-preserved
loop-number-preserved c =
    let number = get_or c.args.numbers.now c.loop-number.number-index (pos 0) in
    let pushed : c.push.new.self.items ≡ c.loop-number.wide.items ++ number ∷ [] = search rules in
    pushed ∙ ap (λ (xs : List ℤ). xs ++ number ∷ []) c.loop-number.invariant ∙ sym (take_more c.args.numbers.now c.loop-number.number-index (pos 0) c.loop-number-test.true)
