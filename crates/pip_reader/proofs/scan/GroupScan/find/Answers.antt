use Rattle.pip_reader.proofs.Words.{◌≡◌, rules, arith, sym, ◌∙◌, ◌≤◌, ◌+◌, ◌-◌, length, take, drop, All, NoBracket}
use Rattle.std.proofs.lemmas.List.{length-take, length-drop}
use Rattle.pip_reader.proofs.Scanning.{quiet-fold, quiet-none, run-more, run-found, fold-run}
use Rattle.pip_reader.proofs.scan.GroupScan.find.Goals as goal

pub loop-at-preserved-then-quiet-gt0 : goal.loop-at-preserved-then-quiet-gt0
loop-at-preserved-then-quiet-gt0 c =
    let at = c.loop-at.at in
    let bytes = c.args.bytes.now in
    let depth = c.loop-at.self in
    let end = at + c.quiet_run-quiet.result in
    let run = take (end - at) (drop at bytes) in
    let within : end ≤ length bytes = omega (arith, c.quiet_run-quiet.ensures.within, length-drop at bytes) in
    let size : c.quiet_run-quiet.result ≡ end - at = omega arith in
    let quiet : All NoBracket (take c.quiet_run-quiet.result (drop c.loop-at.at c.args.bytes.now)) = search rules in
    let no : All NoBracket run = rw (← size) quiet in
    let stays = quiet-fold depth run no in
    let none = quiet-none depth 0 run no in
    record {
      rest = sym (run-more at end bytes (omega arith) depth depth within none stays) ∙ c.loop-at.invariant.rest;
      depth = fold-run at end bytes (omega arith) c.args.self.now depth depth c.loop-at.invariant.depth stays;
      bound = omega arith;
      within = within;
    }

pub returns-in-Some-clause-found : goal.returns-in-Some-clause-found
returns-in-Some-clause-found c =
    let at = c.loop-at.at in
    sym (run-found at (at + c.min.result) c.args.bytes.now (omega arith) c.loop-at.self c.in-Some.after c.in-Some.ensures.found) ∙ c.loop-at.invariant.rest

pub loop-at-preserved : goal.loop-at-preserved
loop-at-preserved c =
    let at = c.loop-at.at in
    let bytes = c.args.bytes.now in
    let now = c.find_in.new.self in
    let within : at + c.min.result ≤ length bytes = omega arith in
    let more = c.in_default.ensures.«open» in
    record {
      rest = sym (run-more at (at + c.min.result) bytes (omega arith) c.loop-at.self now within c.in_default.ensures.found more) ∙ c.loop-at.invariant.rest;
      depth = fold-run at (at + c.min.result) bytes (omega arith) c.args.self.now c.loop-at.self now c.loop-at.invariant.depth more;
      bound = omega (arith, c.in_default.ensures.few, length-take (at + c.min.result - at) (drop at bytes));
      within = within;
    }
