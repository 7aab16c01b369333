use Rattle.quast_text.proofs.Words.{◌≡◌, ◌<◌, ◌++◌, ◌∷◌, [], length-append, arith, rules, refl, ◌∙◌, Ok, err_from_is_err_and, All-push, All-cons, All-nil, IsComponent, text_fault, next_component, components_behind, list_end, list_more, list_refused}
use Rattle.std.proofs.Common.{Some, None}
use Rattle.quast_text.proofs.ListSteps.{components_by}
use Rattle.quast_text.proofs.list.read_components.Goals as goal

pub loop-read-init : goal.loop-read-init
unfolding components_behind
loop-read-init c =
    let items : c.push.new.self.items ≡ c.args.first ∷ [] = search rules in
    rw items (record {
      so_far = refl;
      all = All-cons (IsComponent c.args.width) c.args.first [] c.requires.first (All-nil (IsComponent c.args.width));
      some = omega arith;
      few = omega arith;
      low = omega arith;
      high = c.requires.place;
    })

pub returns-in_err-component-clause-reads : goal.returns-in_err-component-clause-reads
returns-in_err-component-clause-reads c =
    let p = err_from_is_err_and c.from_residual-in_err-component.result c.from_residual-in_err-component.ensures.1 in
    rw (p.1, p.2) (list_refused c.loop-read.read.items _ _ _ _ _ (components_by c.args.bytes.now c.args.width c.loop-read.left c.loop-read.at) c.loop-read.invariant.so_far
    (text_fault c.in_err-component.field-0.0) c.in_err-component.ensures.agrees)

pub loop-read-preserved : goal.loop-read-preserved
loop-read-preserved c =
    let next : next_component c.args.bytes.now c.args.width c.loop-read.left c.loop-read.at ≡ Ok (Some (c.in-Some.component, c.in-Some.after)) = search rules in
    let items : c.push-in-Some.new.self.items ≡ c.loop-read.read.items ++ c.in-Some.component ∷ [] = search rules in
    let component : IsComponent c.args.width c.in-Some.component = search rules in
    let left : 0 < c.loop-read.left = search rules in
    rw items (record {
      so_far = list_more c.loop-read.read.items _ _ _ _ _ (components_by c.args.bytes.now c.args.width c.loop-read.left c.loop-read.at) c.loop-read.invariant.so_far c.in-Some.component c.in-Some.after next;
      all = All-push (IsComponent c.args.width) c.loop-read.read.items c.in-Some.component c.loop-read.invariant.all component;
      some = simp length-append (omega arith);
      few = simp length-append (omega (arith, c.loop-read.invariant.few));
      low = search rules;
      high = search rules;
    })

pub returns-clause-reads : goal.returns-clause-reads
returns-clause-reads c =
    let next : next_component c.args.bytes.now c.args.width c.loop-read.left c.loop-read.at ≡ Ok None = search rules in
    let read = list_end c.loop-read.read.items _ _ _ _ _ (components_by c.args.bytes.now c.args.width c.loop-read.left c.loop-read.at) c.loop-read.invariant.so_far next in
    (read ∙ search rules, search rules, search rules)
