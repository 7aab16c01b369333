use Rattle.kept_run.proofs.Words.{rules, ◌≡◌, ◌∙◌, refl, ap, sym, subst, ℕ, ◌+◌, ◌<◌, ℤ, List, [], ◌∷◌, ◌++◌, length, take, append-nil, take_more, append_assoc, widen_to, Row, form_row, IsReplay, first_rows}
use Rattle.kept_run.proofs.OneFormMore.{rows-more}
use Rattle.kept_run.proofs.further.push_all_further.Goals as goal

pub loop-form-init : goal.loop-form-init
loop-form-init c = record {
  formed = c.requires.formed;
  unknowns = refl;
  replay = λ K is. subst (λ (l : List (List ℤ)). IsReplay (first_rows c.args.m.now.end.unknowns l) c.args.m.now) (sym (append-nil K)) is;
}

pub loop-form-preserved : goal.loop-form-preserved
loop-form-preserved c =
    let n = c.args.m.now.end.unknowns in
    let i = c.loop-form.form-index in
    let f = c.form-item.result in
    let h : c.loop-form.form-index < length c.args.forms.now = search rules in
    let more : take (c.loop-form.form-index + 1) c.args.forms.now ≡ take c.loop-form.form-index c.args.forms.now ++ c.form-item.result ∷ []
    = take_more c.args.forms.now c.loop-form.form-index c.form-item.result h ∙ ap (λ (x : List ℤ). take c.loop-form.form-index c.args.forms.now ++ x ∷ []) (sym c.form-item.is) in
    record {
      formed = c.in_ok-push_further.ensures.formed;
      unknowns = c.in_ok-push_further.ensures.unknowns ∙ c.loop-form.invariant.unknowns;
      replay = λ K is.
          let front = first_rows n (K ++ take i c.args.forms.now) in
          let at = c.in_ok-push_further.ensures.replay front (c.loop-form.invariant.replay K is) in
          let over = subst (λ (k : ℕ). IsReplay (front ++ form_row k (widen_to k f) ∷ []) c.push_further.new.m) c.loop-form.invariant.unknowns at in
          subst (λ (rows : List Row). IsReplay rows c.push_further.new.m)
          (sym (rows-more n (K ++ take i c.args.forms.now) (f ∷ [])) ∙ ap (first_rows n) (append_assoc K (take i c.args.forms.now) (f ∷ []) ∙ ap (λ (l : List (List ℤ)). K ++ l) (sym more))) over;
    }
