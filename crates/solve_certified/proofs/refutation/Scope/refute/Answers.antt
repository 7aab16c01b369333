use Rattle.solve_certified.proofs.Words.{rules, arith, ◌≡◌, ◌∙◌, refl, ap, ◌+◌, pos, length, map, List, ℤ, ℕ, to_z, of_z, err_from_is_err_and, narrow_to, run_fault, places_of}
use Rattle.std.specs.Int.{w128}
use Rattle.solve_certified.proofs.Refuting.{length-places, all-longer, refuted_done, refuted_fault}
use Rattle.solve_certified.proofs.refutation.Scope.refute.Goals as goal

pub refute-requires-clause-wide : goal.refute-requires-clause-wide
refute-requires-clause-wide c =
    let s = c.args.self.now in
    let known = c.args.known.now.forms in
    let at : c.as_slice-2.result.now ≡ places_of s (length known) c.args.n = c.as_slice-2.ensures.value ∙ c.in_ok-places.ensures ∙ ap (λ (k : ℕ). places_of s k c.args.n) c.len-count.ensures in
    rw c.as_slice.ensures.value
    (all-longer c.args.known.now.width (length c.as_slice-2.result.now) (omega (arith, ap length at, length-places s c.args.n known, c.requires.width)) known c.as_slice.ensures.wide)

pub refute-requires-clause-first : goal.refute-requires-clause-first
refute-requires-clause-first c = rw (c.as_slice.ensures.value, c.take_places.ensures) c.requires.first

pub returns-in_err-found-clause-gives : goal.returns-in_err-found-clause-gives
returns-in_err-found-clause-gives c =
    let s = c.args.self.now in
    let known = c.args.known.now.forms in
    let p = err_from_is_err_and c.from_residual-in_err-found.result c.from_residual-in_err-found.ensures.1 in
    let at : c.as_slice-2.result.now ≡ places_of s (length known) c.args.n = c.as_slice-2.ensures.value ∙ c.in_ok-places.ensures ∙ ap (λ (k : ℕ). places_of s k c.args.n) c.len-count.ensures in
    let cast : to_z w128 (of_z w128 c.index_behind-first.result) ≡ c.index_behind-first.result = search rules in
    let sum : c.in-Some.first ≡ length known + length s.quotients.now = search rules in
    let w = length c.as_slice-2.result.now in
    rw (p.1, p.2)
    (refuted_fault s c.args.n known w w (map (narrow_to w) c.as_slice.result.now) c.as_slice-2.result.now (to_z w128 (of_z w128 c.index_behind-first.result)) refl refl (ap (λ (K : List (List ℤ)). map (narrow_to w) K) c.as_slice.ensures.value) at (cast ∙ c.index_behind-first.ensures.value ∙ ap pos sum)
    (run_fault c.in_err-found.field-0.0) c.args.work.now c.refute.new.work c.in_err-found.ensures.gives.agrees)

pub quotient_steps-requires-clause-number : goal.quotient_steps-requires-clause-number
quotient_steps-requires-clause-number c =
    let s = c.args.self.now in
    let known = c.args.known.now.forms in
    let at : c.as_slice-3.result.now ≡ places_of s (length known) c.args.n = c.as_slice-3.ensures.value ∙ c.in_ok-places.ensures ∙ ap (λ (k : ℕ). places_of s k c.args.n) c.len-count.ensures in
    omega (arith, ap length at, length-places s c.args.n known)

pub returns-clause-first : goal.returns-clause-first
returns-clause-first c = rw c.keep_places.ensures (rw c.as_slice.ensures.value at c.in_ok-found.ensures.first)

pub returns-clause-gives : goal.returns-clause-gives
returns-clause-gives c =
    let s = c.args.self.now in
    let known = c.args.known.now.forms in
    let at : c.as_slice-2.result.now ≡ places_of s (length known) c.args.n = c.as_slice-2.ensures.value ∙ c.in_ok-places.ensures ∙ ap (λ (k : ℕ). places_of s k c.args.n) c.len-count.ensures in
    let cast : to_z w128 (of_z w128 c.index_behind-first.result) ≡ c.index_behind-first.result = search rules in
    let sum : c.in-Some.first ≡ length known + length s.quotients.now = search rules in
    let again : c.as_slice-3.result.now ≡ c.as_slice-2.result.now = search rules in
    let w = length c.as_slice-2.result.now in
    refuted_done s c.args.n known w w (map (narrow_to w) c.as_slice.result.now) c.as_slice-2.result.now (to_z w128 (of_z w128 c.index_behind-first.result)) refl refl (ap (λ (K : List (List ℤ)). map (narrow_to w) K) c.as_slice.ensures.value) at (cast ∙ c.index_behind-first.ensures.value ∙ ap pos sum)
    c.in_ok-found.found c.in_ok-steps.steps c.in_ok-made.made c.args.work.now c.refute.new.work c.in_ok-found.ensures.gives.agrees (rw again at c.in_ok-steps.ensures) c.in_ok-made.ensures
