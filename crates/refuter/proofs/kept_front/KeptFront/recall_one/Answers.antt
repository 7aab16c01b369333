use Rattle.refuter.proofs.Words.{rules, arith, ◌≡◌, ◌<◌, ◌+◌, ◌∷◌, [], ◌++◌, length, map, take, All, narrow_to, IsContext, IsRemembered}
use Rattle.std.specs.Prelude.{◌-◌, IsTrue}
use Rattle.kept_run.proofs.Longer.{context_longer}
use Rattle.refuter.proofs.FurtherForms.{next-form, form-length}
use Rattle.refuter.proofs.kept_front.KeptFront.recall_one.Goals as goal

pub returns-clause-first : goal.returns-clause-first
returns-clause-first c =
    let w = c.self.inside.width in
    let j = c.self.inside.count in
    let known = c.args.known.now in
    let form = c.index-forms-0.result in
    let front = map (narrow_to w) (take j known) in
    let width : w ≡ c.args.self.now.width = search rules in
    let count : j ≡ c.args.self.now.count = search rules in
    let more : j < length known = rw count c.requires.more in
    let wide : All (λ c. w < length c) known = rw width c.requires.wide in
    let context : IsContext w front = rw (width, count) c.requires.first.run.context in
    let before : IsTrue c.self.inside.is_known → IsRemembered w front c.self.inside.run = search rules in
    let grown : map (narrow_to w) (take (j + 1) known) ≡ front ++ form ∷ []
    = next-form w j (j + 1 - j) known c.in_ok-forms.forms.now form more (omega arith) c.in_ok-forms.ensures.value c.index-forms-0.is in
    let long = form-length w j (j + 1 - j) known c.in_ok-forms.forms.now form more (omega arith) c.in_ok-forms.ensures.value c.index-forms-0.is wide in
    record {
      few = omega (arith, more);
      run = record {
        context = rw grown (context_longer w front form (omega (arith, long)) (omega (arith, long)) context);
        remembered = λ h. rw grown (c.goes_further-self-inside.ensures w front before h);
      };
    }
