use Rattle.pip_solve.proofs.Words.{◌≡◌, ◌∙◌, ap, sym, ℕ, ◌+◌, ◌<◌, ℤ, List, [], ◌∷◌, ◌++◌, length, map, take, tighten}
use Rattle.std.proofs.Common.{get_or}
use Rattle.std.proofs.lemmas.List.{map_more, take_all}
use Rattle.pip_solve.proofs.starting.tighten_rows.Goals as goal

more : (xs ys zs : List (List ℤ)) (i : ℕ) (x y : List ℤ) → i < length xs → x ≡ get_or xs i x → ys ≡ map tighten (take i xs) → y ≡ tighten x → zs ≡ ys ++ y ∷ [] → zs ≡ map tighten (take (i + 1) xs)
more xs ys zs i x y lt at e same step = step ∙ ap (λ (front : List (List ℤ)). front ++ y ∷ []) e ∙ ap (λ (a : List ℤ). map tighten (take i xs) ++ a ∷ []) (same ∙ ap tighten at) ∙ sym (map_more tighten xs i x lt)

pub loop-row-preserved : goal.loop-row-preserved
loop-row-preserved c = more c.args.rows.now c.loop-row.forms.items c.push.new.self.items c.loop-row.row-index c.row-item.result c.tighten.new.self c.loop-row-test.true c.row-item.is c.loop-row.invariant (c.tighten.ensures.value ∙ ap tighten c.in_ok-form.ensures) c.in_ok-push.ensures.items

pub returns : goal.returns
returns c = c.loop-row.invariant ∙ ap (map tighten) (take_all c.loop-row.row-index c.args.rows.now c.loop-row-test.false)
