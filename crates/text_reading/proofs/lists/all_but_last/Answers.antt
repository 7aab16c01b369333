use Rattle.std.proofs.Common.{◌≡◌, ◌∙◌, ◌<◌, [], ap, sym, rules, arith, ◌+◌, ◌-◌, length, length-drop, drop}
use Rattle.std.proofs.lemmas.Result.{err_from_is_err_and}
use Rattle.std.proofs.lemmas.List.Elements.{All-push, All-nil}
use Rattle.affine_forms.specs.Checks.{Fits}
use Rattle.pip_model.specs.Reading.{number, numbers}
use Rattle.text_reading.specs.Steps.{fault_of}
use Rattle.text_reading.proofs.Fronts.{refused_more, numbers_more}
use Rattle.text_reading.proofs.Spaced.{passed, spaced_passes, long_passes, none_passed}
use Rattle.text_reading.proofs.lists.all_but_last.Goals.{in-Some, in-None+in_ok-entry-in-None}
use Rattle.text_reading.proofs.lists.all_but_last.Goals as goal

pub loop-init : goal.loop-init
loop-init c =
    let bytes = c.args.bytes.now in
    let start = c.skip_space.result in
    let items : c.args.read.items ≡ [] = c.requires.empty in
    let size : length c.split_at.result.1.now ≡ length c.args.bytes.now - c.skip_space.result = ap length c.split_at.ensures.back ∙ length-drop start bytes in
    let at : length c.args.bytes.now - length c.split_at.result.1.now ≡ c.skip_space.result = omega (arith, size, c.skip_space.ensures.order.1) in
    let all : c.args.count - 0 ≡ c.args.count = omega arith in
    record {
      so_far = rw (items, at, all) (none_passed bytes c.args.count c.args.place start c.requires.some c.skip_space.ensures.value);
      count = ap length items;
      fits = rw items (All-nil Fits);
      rest = c.split_at.ensures.back ∙ ap (λ n. drop n bytes) (sym at);
      few = omega (arith, size);
      low = omega (arith, at, c.skip_space.ensures.order.0);
      room = search rules;
    }

pub returns-in_err-entry-in-None-clause-reads : goal.returns-in_err-entry-in-None-clause-reads
returns-in_err-entry-in-None-clause-reads c =
    let at = length c.args.bytes.now - length c.loop.rest.now in
    let p = err_from_is_err_and c.from_residual.result c.from_residual.ensures.1 in
    rw (p.1, p.2) (refused_more (fault_of c.in_err-entry-in-None.field-0.0) c.loop.read.items (number c.args.bytes.now at)
    (λ q. numbers c.args.bytes.now (c.args.count - (c.loop.counter + 1)) q)
    _ _ (numbers_more c.args.bytes.now c.args.count c.loop.counter at (omega arith)) c.loop.invariant.so_far c.in_err-entry-in-None.ensures.reads)

pub loop-preserved : goal.loop-preserved
loop-preserved c =
    let bytes = c.args.bytes.now in
    let at = length c.args.bytes.now - length c.loop.rest.now in
    let more : c.loop.counter + 1 < c.args.count = omega arith in
    elim c.match-spaced_number.branch [
      | in-Some w ↦
          let p = spaced_passes bytes c.loop.rest.now w.in-Some.behind.now w.in-Some.entry c.loop.invariant.rest c.loop.invariant.few w.in-Some.ensures.value in
          record {
            so_far = rw (w.read-is, w.rest-is, w.push_reserved.ensures.items) (passed bytes w.in-Some.behind.now c.loop.read.items c.args.count c.loop.counter at _ w.in-Some.entry _ more (search rules) c.loop.invariant.so_far p);
            count = search rules;
            fits = rw (w.read-is, w.push_reserved.ensures.items) (All-push Fits _ _ c.loop.invariant.fits (search rules));
            rest = rw w.rest-is p.is;
            few = rw w.rest-is p.few;
            low = rw w.rest-is (omega (arith, p.low, c.loop.invariant.low));
            room = search rules;
          }
      | in-None+in_ok-entry-in-None w ↦
          let behind = w.split_at-in-None.result.1.now in
          let z = w.in_ok-entry-in-None.entry in
          let read = w.in_ok-entry-in-None.ensures.reads in
          let order = w.skip_space-in-None.ensures.order in
          let p = long_passes bytes behind z at w.in_ok-entry-in-None.after w.skip_space-in-None.result read.0 w.skip_space-in-None.ensures.value w.split_at-in-None.ensures.back order.0 order.1 read.1 in
          record {
            so_far = rw (w.read-is, w.rest-is, w.push_reserved-in-None.ensures.items) (passed bytes behind c.loop.read.items c.args.count c.loop.counter at _ z _ more (search rules) c.loop.invariant.so_far p);
            count = search rules;
            fits = rw (w.read-is, w.push_reserved-in-None.ensures.items) (All-push Fits _ _ c.loop.invariant.fits (search rules));
            rest = rw w.rest-is p.is;
            few = rw w.rest-is p.few;
            low = rw w.rest-is (omega (arith, p.low, c.loop.invariant.low));
            room = search rules;
          }
    ]
