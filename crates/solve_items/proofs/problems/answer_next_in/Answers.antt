use Rattle.solve_items.proofs.Words.{refl, ap, arith, true, false, err_from_is_err_and, Ok, Appends, AppendsFront, options_of, err-not_ok}
use Rattle.solve_items.proofs.ByProblem.{unread-told, unanswered-told, answers-told, next-limit, own-limit, own-not_long, next-words, own-words, faults-none, faults-next, faults-own, faults-write}
use Rattle.solve_items.proofs.Asked.{calls-refused}
use Rattle.solve_items.proofs.problems.answer_next_in.Goals as goal

pub next_problem_in-requires : goal.next_problem_in-requires
next_problem_in-requires g c = record { few = c.requires.held; within = c.requires.taken }

pub write_solution-solved-requires : goal.write_solution-solved-requires
write_solution-solved-requires g c = c.clear.ensures.items

-- ---- the problem is not read

pub returns-in_err-problem : goal.returns-in_err-problem
returns-in_err-problem g c =
    let p = err_from_is_err_and c.from_residual.result c.from_residual.ensures.1 in
    record {
      answers = rw (p.1, p.2) (unread-told (options_of c.args.options.now) c.args.window.now c.next_problem_in.new.window (g.S.Source.left c.next_problem_in.new.source) (g.K.Sink.written c.args.sink.now) (g.K.Sink.written c.args.sink.now) (g.S.Source.left c.args.source.now) _ c.in_err-problem.ensures.finds);
      kept = λ _ _. refl;
      words = rw (p.1, p.2) (next-words _);
      end = λ h. err-not_ok _ _ false p.1 h;
      ready = rw p.1 tt;
      dropped = λ h. err-not_ok _ _ true p.1 h;
      bound = c.next_problem_in.ensures.window.bound;
      limit = rw (p.1, p.2) (next-limit _ _ c.in_err-problem.ensures.window.limit);
      calls = rw p.1 c.in_err-problem.ensures.calls;
      faults = rw (p.1, p.2) (faults-next _ _ _ _ _ 0 refl refl _ c.in_err-problem.ensures.faults);
    }

-- ---- no problem is left

pub returns-in-None : goal.returns-in-None
returns-in-None g c =
    record {
      answers = rw c.in-None.is at c.in_ok-problem.ensures.finds;
      kept = λ _ _. refl;
      words = λ h. cc;
      end = λ _. c.in_ok-problem.ensures.end (ap (λ x. Ok x) c.in-None.is);
      ready = c.in_ok-problem.ensures.window.ready;
      dropped = λ h. absurd cc;
      bound = c.next_problem_in.ensures.window.bound;
      limit = own-limit (Ok false) _ (λ h. cc) c.in_ok-problem.ensures.window.ready.within;
      calls = rw c.in-None.is at c.in_ok-problem.ensures.calls;
      faults = faults-none _ _ 0 _ _ 0 (c.in_ok-problem.ensures.faults.quiet (λ e. cc)) refl false;
    }

-- ---- its answer is refused

pub returns-in_err-solved-in-Some : goal.returns-in_err-solved-in-Some
returns-in_err-solved-in-Some g c =
    let p = err_from_is_err_and c.from_residual-in_err-solved-in-Some.result c.from_residual-in_err-solved-in-Some.ensures.1 in
    record {
      answers = rw (p.1, p.2) (unanswered-told (options_of c.args.options.now) c.args.window.now c.next_problem_in.new.window (g.S.Source.left c.next_problem_in.new.source) (g.K.Sink.written c.args.sink.now) (g.K.Sink.written c.args.sink.now) (g.S.Source.left c.args.source.now) _ _ (rw c.in-Some.is at c.in_ok-problem.ensures.finds) c.in_ok-problem.ensures.window.ready _ c.in_err-solved-in-Some.ensures.own c.in_err-solved-in-Some.ensures.text);
      kept = λ _ _. refl;
      words = rw (p.1, p.2) (own-words _ c.in_err-solved-in-Some.ensures.own);
      end = λ h. err-not_ok _ _ false p.1 h;
      ready = rw p.1 tt;
      dropped = λ h. err-not_ok _ _ true p.1 h;
      bound = c.next_problem_in.ensures.window.bound;
      limit = rw (p.1, p.2) (own-limit _ _ (own-not_long _ c.in_err-solved-in-Some.ensures.own) c.in_ok-problem.ensures.window.ready.within);
      calls = rw p.1 (calls-refused g.S.Source.calls g.S.Source.taken c.args.source.now c.next_problem_in.new.source c.args.window.now c.next_problem_in.new.window (g.S.Source.left c.args.source.now) (rw c.in-Some.is at c.in_ok-problem.ensures.calls));
      faults = rw (p.1, p.2) (faults-own _ _ 0 _ _ 0 (c.in_ok-problem.ensures.faults.quiet (λ e. cc)) refl _ c.in_err-solved-in-Some.ensures.own);
    }

-- ---- a write of its text fails

pub returns-in_err-write_all-in-Some : goal.returns-in_err-write_all-in-Some
returns-in_err-write_all-in-Some g c =
    let p = err_from_is_err_and c.from_residual-in_err-write_all-in-Some.result c.from_residual-in_err-write_all-in-Some.ensures.1 in
    record {
      answers = rw (p.1, p.2) (answers-told (options_of c.args.options.now) c.args.window.now c.next_problem_in.new.window (g.S.Source.left c.next_problem_in.new.source) (g.K.Sink.written c.args.sink.now) (g.K.Sink.written c.write_all.new.sink) (AppendsFront (g.K.Sink.written c.args.sink.now) (g.K.Sink.written c.write_all.new.sink)) (g.S.Source.left c.args.source.now) _ _ _ (rw c.in-Some.is at c.in_ok-problem.ensures.finds) c.in_ok-solved-in-Some.ensures.text (rw c.deref.ensures.value at c.in_err-write_all-in-Some.ensures.bytes));
      kept = rw (p.1, p.2) (λ _ other. absurd (other refl));
      words = rw (p.1, p.2) (λ h. cc);
      end = λ h. err-not_ok _ _ false p.1 h;
      ready = rw p.1 tt;
      dropped = λ h. err-not_ok _ _ true p.1 h;
      bound = c.next_problem_in.ensures.window.bound;
      limit = rw (p.1, p.2) (own-limit _ _ (λ h. cc) c.in_ok-problem.ensures.window.ready.within);
      calls = rw p.1 (calls-refused g.S.Source.calls g.S.Source.taken c.args.source.now c.next_problem_in.new.source c.args.window.now c.next_problem_in.new.window (g.S.Source.left c.args.source.now) (rw c.in-Some.is at c.in_ok-problem.ensures.calls));
      faults = rw (p.1, p.2) (faults-write _ _ 0 _ _ _ (c.in_ok-problem.ensures.faults.quiet (λ e. cc)) refl c.in_err-write_all-in-Some.ensures.faults refl);
    }

-- ---- it is answered

pub returns-in_ok-write_all-in-Some : goal.returns-in_ok-write_all-in-Some
returns-in_ok-write_all-in-Some g c =
    record {
      answers = answers-told (options_of c.args.options.now) c.args.window.now c.next_problem_in.new.window (g.S.Source.left c.next_problem_in.new.source) (g.K.Sink.written c.args.sink.now) (g.K.Sink.written c.write_all.new.sink) (Appends (g.K.Sink.written c.args.sink.now) (g.K.Sink.written c.write_all.new.sink)) (g.S.Source.left c.args.source.now) _ _ _ (rw c.in-Some.is at c.in_ok-problem.ensures.finds) c.in_ok-solved-in-Some.ensures.text (rw c.deref.ensures.value at c.in_ok-write_all-in-Some.ensures.bytes);
      kept = λ no _. absurd (no refl);
      words = λ h. cc;
      end = λ h. absurd cc;
      ready = c.in_ok-problem.ensures.window.ready;
      dropped = λ _. let d = rw c.in-Some.is at c.in_ok-problem.ensures.window.dropped in omega (arith, d.0, d.1);
      bound = c.next_problem_in.ensures.window.bound;
      limit = own-limit (Ok true) _ (λ h. cc) c.in_ok-problem.ensures.window.ready.within;
      calls = rw c.in-Some.is at c.in_ok-problem.ensures.calls;
      faults = faults-none _ _ 0 _ _ 0 (c.in_ok-problem.ensures.faults.quiet (λ e. cc)) (c.in_ok-write_all-in-Some.ensures.faults.quiet (λ e. cc)) true;
    }
