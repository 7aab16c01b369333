use Rattle.pip_reader.proofs.Words.{sym, ◌∙◌, drop, err_from_is_err_and, read_fault, context_at}
use Rattle.pip_reader.proofs.Found.{none_left, one_left, none_found, one_found, one_refused}
use Rattle.pip_reader.proofs.context.read_context.Goals as goal

pub returns-in-None-clause-none : goal.returns-in-None-clause-none
returns-in-None-clause-none c = none_left c.args.start (drop c.args.start c.args.bytes.now) (sym c.next_open.ensures.value ∙ c.in-None.is)

pub returns-in_ok-context_at-in-Some-clause-none : goal.returns-in_ok-context_at-in-Some-clause-none
returns-in_ok-context_at-in-Some-clause-none c = one_left _ c.args.start c.in-Some.place (drop c.args.start c.args.bytes.now) (sym c.next_open.ensures.value ∙ c.in-Some.is)

pub returns-in-None-clause-agrees : goal.returns-in-None-clause-agrees
returns-in-None-clause-agrees c = none_found (context_at c.args.bytes.now c.args.np) c.args.bytes.now c.args.start (sym c.next_open.ensures.value ∙ c.in-None.is)

pub returns-in_ok-context_at-in-Some-clause-agrees : goal.returns-in_ok-context_at-in-Some-clause-agrees
returns-in_ok-context_at-in-Some-clause-agrees c = one_found (context_at c.args.bytes.now c.args.np) c.args.bytes.now c.args.start c.in-Some.place _ (sym c.next_open.ensures.value ∙ c.in-Some.is) c.in_ok-context_at-in-Some.ensures.reads.0

pub returns-in_err-context_at-in-Some-clause-agrees : goal.returns-in_err-context_at-in-Some-clause-agrees
returns-in_err-context_at-in-Some-clause-agrees c =
    let p = err_from_is_err_and c.from_residual.result c.from_residual.ensures.1 in
    rw (p.1, p.2) (one_refused (context_at c.args.bytes.now c.args.np) c.args.bytes.now c.args.start c.in-Some.place (read_fault c.in_err-context_at-in-Some.field-0.0) (sym c.next_open.ensures.value ∙ c.in-Some.is) c.in_err-context_at-in-Some.ensures.reads)
