use Rattle.pip_reader.proofs.Words.{◌≡◌, ◌≢◌, ◌+◌, ◌≤◌, ◌∙◌, ◌⊎◌, inl, inr, sym, ap, arith, slice_index, open_after, cases_eq, other_byte}
use Rattle.pip_reader.proofs.Scanning.{end_more, fold_more}
use Rattle.pip_reader.proofs.scan.GroupScan.find_in.Goals as goal
use Rattle.pip_reader.proofs.scan.GroupScan.find_in.Goals.{then-byte-eq40+else-before-gt0, else-before-gt0-via-then-before-gt0+else-depth-eq0, else-before-gt0-via-else-before-gt0, else-byte-eq40+else-byte-eq41}

pub loop-i-preserved : goal.loop-i-preserved
loop-i-preserved c =
    let is : c.if-byte-eq40.depth ≡ open_after c.loop-i.depth (slice_index c.args.bytes.now c.loop-i.i) =
    elim c.if-byte-eq40.branch [
      | then-byte-eq40+else-before-gt0 w ↦ w.depth-is ∙ w.open_after-depth.ensures.value
      | else-byte-eq40+else-byte-eq41 w ↦ w.depth-is ∙ other_byte _ _ w.if-byte-eq40.false w.if-byte-eq41.false
    ] in
    let goes_on : (c.loop-i.depth ≡ 0) ⊎ (c.if-byte-eq40.depth ≢ 0) =
    elim c.if-byte-eq40.branch [
      | then-byte-eq40+else-before-gt0 w ↦ elim w.else-before-gt0.branch [
        | else-before-gt0-via-then-before-gt0+else-depth-eq0 v ↦ inr (λ e. v.if-depth-eq0.false (sym w.depth-is ∙ e))
        | else-before-gt0-via-else-before-gt0 v ↦ inl (omega arith)
      ]
      | else-byte-eq40+else-byte-eq41 w ↦ rw w.depth-is (cases_eq c.loop-i.depth 0)
    ] in
    let few : c.if-byte-eq40.depth ≤ c.loop-i.depth + 1 =
    elim c.if-byte-eq40.branch [
      | then-byte-eq40+else-before-gt0 w ↦ omega (arith, w.depth-is, w.open_after-depth.ensures.bound)
      | else-byte-eq40+else-byte-eq41 w ↦ omega (arith, w.depth-is)
    ] in
    record {
      rest = sym (end_more _ _ c.loop-i.i c.args.bytes.now (omega arith) is goes_on) ∙ c.loop-i.invariant.rest;
      depth = fold_more c.args.self.now _ c.loop-i.i c.args.bytes.now (omega arith) (is ∙ ap (λ d. open_after d (slice_index c.args.bytes.now c.loop-i.i)) c.loop-i.invariant.depth);
      bound = omega arith;
    }
