use Rattle.lanes.proofs.Words.{◌≡◌, ◌∙◌, sym, true, false}
use Rattle.std.proofs.lemmas.Bool.Decides.{Decides-int_eq}
use Rattle.std.proofs.lemmas.Slice.Eq.{slice_eq-Decides}
use Rattle.lanes.proofs.lanes.Lanes.same.Goals as goal

pub returns-clause-same : goal.returns-clause-same
returns-clause-same c = λ yes. sym c.self.view_is ∙ (slice_eq-Decides Decides-int_eq _ _ _ c.eq.ensures).0 yes ∙ c.t.view_is

pub returns-clause-other : goal.returns-clause-other
returns-clause-other c = λ no is.
    let no_result : c.eq.result ≡ false = no in
    let yes : c.eq.result ≡ true = (slice_eq-Decides Decides-int_eq _ _ _ c.eq.ensures).1 (c.self.view_is ∙ is ∙ sym c.t.view_is) in
    cc
