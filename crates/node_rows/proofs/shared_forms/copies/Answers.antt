use Rattle.node_rows.proofs.Words.{◌≡◌, ◌∙◌, ap, sym, ℕ, ◌+◌, ◌<◌, ℤ, List, [], ◌∷◌, ◌++◌, length, take, get_or, take_more, take_all}
use Rattle.node_rows.proofs.shared_forms.copies.Goals as goal

more : (xs ys zs : List (List ℤ)) (i : ℕ) (x y : List ℤ) → i < length xs → x ≡ get_or xs i x → ys ≡ take i xs → y ≡ x → zs ≡ ys ++ y ∷ [] → zs ≡ take (i + 1) xs
more xs ys zs i x y lt at e same step = step ∙ ap (λ (front : List (List ℤ)). front ++ y ∷ []) e ∙ ap (λ (a : List ℤ). take i xs ++ a ∷ []) (same ∙ at) ∙ sym (take_more xs i x lt)

pub loop-form-preserved : goal.loop-form-preserved
loop-form-preserved c = more c.args.forms.now c.loop-form.made.items c.push.new.self.items c.loop-form.form-index c.form-item.result c.in_ok-copy.copy c.loop-form-test.true c.form-item.is c.loop-form.invariant c.in_ok-copy.ensures c.in_ok-push.ensures.items

pub returns : goal.returns
returns c = c.loop-form.invariant ∙ take_all c.loop-form.form-index c.args.forms.now c.loop-form-test.false
