use Rattle.quast_text.proofs.Words.{refl, arith, RightParen, LeftParen, expect, err_from_is_err_and, text_fault, group, tree_or_void, commented_at, fault_of, refused_by}
use Rattle.quast_text.proofs.read.spoken_at.Goals as goal

pub returns-in_err-first-clause-reads : goal.returns-in_err-first-clause-reads
returns-in_err-first-clause-reads c =
    let p = err_from_is_err_and c.from_residual.result c.from_residual.ensures.1 in
    rw (p.1, p.2) (refused_by (fault_of c.in_err-first.field-0.0) (expect c.args.bytes.now LeftParen c.args.place) (commented_at c.args.bytes.now c.args.np c.args.place)
    (λ f e. rw e refl) c.in_err-first.ensures)

pub returns-in_err-comment-clause-reads : goal.returns-in_err-comment-clause-reads
returns-in_err-comment-clause-reads c =
    let p = err_from_is_err_and c.from_residual-in_err-comment.result c.from_residual-in_err-comment.ensures.1 in
    rw (p.1, p.2) (refused_by (fault_of c.in_err-comment.field-0.0) (group c.args.bytes.now c.in_ok-first.first) (commented_at c.args.bytes.now c.args.np c.args.place)
    (λ f e. rw (c.in_ok-first.ensures.0, e) refl) c.in_err-comment.ensures)

pub returns-in_err-answer-clause-reads : goal.returns-in_err-answer-clause-reads
returns-in_err-answer-clause-reads c =
    let p = err_from_is_err_and c.from_residual-in_err-answer.result c.from_residual-in_err-answer.ensures.1 in
    rw (p.1, p.2) (refused_by (text_fault c.in_err-answer.field-0.0) (tree_or_void c.args.bytes.now c.args.np c.in_ok-comment.at) (commented_at c.args.bytes.now c.args.np c.args.place)
    (λ f e. rw (c.in_ok-first.ensures.0, c.in_ok-comment.ensures.0, e) refl) c.in_err-answer.ensures.reads)

pub returns-in_err-after-clause-reads : goal.returns-in_err-after-clause-reads
returns-in_err-after-clause-reads c =
    let p = err_from_is_err_and c.from_residual-in_err-after.result c.from_residual-in_err-after.ensures.1 in
    rw (p.1, p.2) (refused_by (fault_of c.in_err-after.field-0.0) (expect c.args.bytes.now RightParen c.in_ok-answer.at) (commented_at c.args.bytes.now c.args.np c.args.place)
    (λ f e. rw (c.in_ok-first.ensures.0, c.in_ok-comment.ensures.0, c.in_ok-answer.ensures.reads.0, e) refl) c.in_err-after.ensures)

pub returns-clause-reads : goal.returns-clause-reads
returns-clause-reads c = (
  rw (c.in_ok-first.ensures.0, c.in_ok-comment.ensures.0, c.in_ok-answer.ensures.reads.0, c.in_ok-after.ensures.0) refl,
  omega (arith, c.in_ok-first.ensures.1, c.in_ok-comment.ensures.1, c.in_ok-answer.ensures.reads.1, c.in_ok-after.ensures.1),
  c.in_ok-after.ensures.2,
)
