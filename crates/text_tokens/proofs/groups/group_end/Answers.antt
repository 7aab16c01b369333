use Rattle.text_tokens.proofs.Words.{◌≡◌, ◌≢◌, ◌+◌, ◌≤◌, ◌∙◌, sym, rules, arith, slice_index, open_after}
use Rattle.text_tokens.proofs.Closing.{closing_step, other_byte}
use Rattle.text_tokens.proofs.groups.group_end.Goals as goal
use Rattle.text_tokens.proofs.groups.group_end.Goals.{then-byte-eq40+else-depth-eq0, else-byte-eq40+else-byte-eq41}

pub loop-i-preserved : goal.loop-i-preserved
loop-i-preserved c =
    let rest = c.split_at.result.1.now in
    let now = c.if-byte-eq40.depth in
    let is : c.if-byte-eq40.depth ≡ open_after c.loop-i.depth (slice_index c.split_at.result.1.now c.loop-i.i) =
    elim c.if-byte-eq40.branch [
      | then-byte-eq40+else-depth-eq0 w ↦ w.depth-is ∙ w.open_after-depth.ensures.value
      | else-byte-eq40+else-byte-eq41 w ↦ w.depth-is ∙ other_byte _ _ w.if-byte-eq40.false w.if-byte-eq41.false
    ] in
    let some : c.if-byte-eq40.depth ≢ 0 =
    elim c.if-byte-eq40.branch [
      | then-byte-eq40+else-depth-eq0 w ↦ λ e. w.if-depth-eq0.false (sym w.depth-is ∙ e)
      | else-byte-eq40+else-byte-eq41 w ↦ λ e. absurd (omega (arith, w.depth-is, c.loop-i.invariant.2, e))
    ] in
    let few : c.if-byte-eq40.depth ≤ c.loop-i.depth + 1 =
    elim c.if-byte-eq40.branch [
      | then-byte-eq40+else-depth-eq0 w ↦ omega (arith, w.depth-is, w.open_after-depth.ensures.bound)
      | else-byte-eq40+else-byte-eq41 w ↦ omega (arith, w.depth-is)
    ] in
    (sym (closing_step c.loop-i.depth now c.args.start c.loop-i.i rest (search rules) is some) ∙ c.loop-i.invariant.0, omega arith, omega arith)
