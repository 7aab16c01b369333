use Rattle.refutation_steps.proofs.Words.{◌≡◌, ◌∙◌, ap, sym, ℤ, refute_by, ℕ, zero, suc, Bool, false, refl, [], length, arith, w128, to_z-of_z, ◌==◌, run_same}
use Rattle.std.proofs.lemmas.Bool.{false≢true}
use Rattle.refutation_steps.proofs.Tracing.{refute_by_run}
use Rattle.refutation_steps.proofs.room.RefutationRoom.refute.Goals.{else-is_empty-via-then-is_empty+else-is_empty-2, else-is_empty-via-else-is_empty}
use Rattle.refutation_steps.proofs.room.RefutationRoom.refute.Goals as goal

not_none : (n : ℕ) (b : Bool) → b ≡ (n == 0) → b ≡ false → n ≡ 0 → ⊥
not_none zero b e f none = false≢true (sym f ∙ e)
not_none (suc n) b e f none = absurd (omega (arith, none))

pub returns-in-Some-refute_in_64_bits : goal.returns-in-Some-refute_in_64_bits
returns-in-Some-refute_in_64_bits c =
    let some : length c.args.places.now ≡ 0 → c.args.forms.now ≡ [] → ⊥ = elim c.else-is_empty.branch [
      | else-is_empty-via-then-is_empty+else-is_empty-2 w ↦ λ n none. not_none (length c.args.forms.now) w.is_empty-then-is_empty.result w.is_empty-then-is_empty.ensures w.if-is_empty-2.false (rw none refl)
      | else-is_empty-via-else-is_empty w ↦ λ n none. not_none (length c.args.places.now) c.is_empty.result c.is_empty.ensures w.if-is_empty.false n
    ] in
    let first = ap (λ (z : ℤ). refute_by (length c.args.places.now) c.args.forms.now c.args.places.now z c.args.work.now) (to_z-of_z w128 c.args.first c.ranges.first) in
    record { gives = run_same c.in-Some-refute_in_64_bits.ensures.gives (first ∙ sym (refute_by_run (length c.args.places.now) c.args.forms.now c.args.places.now c.args.first c.args.work.now some)) }

pub returns : goal.returns
returns c =
    let some : length c.args.places.now ≡ 0 → c.args.forms.now ≡ [] → ⊥ = elim c.else-is_empty.branch [
      | else-is_empty-via-then-is_empty+else-is_empty-2 w ↦ λ n none. not_none (length c.args.forms.now) w.is_empty-then-is_empty.result w.is_empty-then-is_empty.ensures w.if-is_empty-2.false (rw none refl)
      | else-is_empty-via-else-is_empty w ↦ λ n none. not_none (length c.args.places.now) c.is_empty.result c.is_empty.ensures w.if-is_empty.false n
    ] in
    let first = ap (λ (z : ℤ). refute_by (length c.args.places.now) c.args.forms.now c.args.places.now z c.args.work.now) (to_z-of_z w128 c.args.first c.ranges.first) in
    let given = rw c.in_default-refute_in_64_bits.ensures.none at c.run.ensures.gives in
    record { gives = run_same given (first ∙ sym (refute_by_run (length c.args.places.now) c.args.forms.now c.args.places.now c.args.first c.args.work.now some)) }
