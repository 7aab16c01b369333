-- A native text has no option words, and is found exactly where a `(` is left.
use Rattle.pip_reader.proofs.Words.{Ok, ap, drop, Reads, ◌>>=◌, item_at, ◌≡◌, ℕ, refl, subst, List, Option, Some, None, Result, Err, IfErr, IfSome, IsTrue, ◌↔◌, ◌∙◌, sym, list_all, is_closed, Fault, ReadRefusal, read_fault, next_open, next_open-none, next_open-closed, item, refused_by}
use Rattle.pip_problem.specs.declared.refusal.ReadRefusal.TheVariants as refusal
use Rattle.pip_reader.specs.Refusals.{IsNoOption}
use Rattle.pip_reader.proofs.FaultPlaces.{FaultWithin}

pub told_no_option : {X : Type 0} (n : ℕ) (e : ReadRefusal) (model : Result X Fault) → IfErr model (FaultWithin n) → IfSome (read_fault e) (λ f. model ≡ Err f) → IsNoOption e
told_no_option n (refusal.OptionWord word) model h told = subst (λ m. IfErr m (FaultWithin n)) told h
told_no_option n _ model h told = tt

pub none_left : {A : Type 0} (start : ℕ) (bytes : List ℕ) → next_open start bytes ≡ None → (◌≡◌ {A = Option A} None None) ↔ IsTrue (list_all is_closed bytes)
none_left start bytes h = (λ _. next_open-none start bytes h, λ _. refl)

pub one_left : {A : Type 0} (x : A) (start place : ℕ) (bytes : List ℕ) → next_open start bytes ≡ Some place → (Some x ≡ None) ↔ IsTrue (list_all is_closed bytes)
one_left x start place bytes h = (λ e. cc, λ closed. absurd (let both : Some place ≡ None = sym h ∙ next_open-closed start bytes closed in cc))

-- ---- what is found behind the first `(`

module _ {A : Type 0} (read : ℕ → Reads A) (bytes : List ℕ) (start : ℕ) where
  pub none_found : next_open start (drop start bytes) ≡ None → item read bytes start ≡ Ok None
  none_found h = ap (item_at read) h

  pub one_found : (place : ℕ) (x : A × ℕ) → next_open start (drop start bytes) ≡ Some place → read place ≡ Ok x → item read bytes start ≡ Ok (Some x)
  one_found place x h e = ap (item_at read) h ∙ ap (λ r. r >>= λ y. Ok (Some y)) e

  pub one_refused : (place : ℕ) (fault : Option Fault) → next_open start (drop start bytes) ≡ Some place → IfSome fault (λ f. read place ≡ Err f) → IfSome fault (λ f. item read bytes start ≡ Err f)
  one_refused place fault h told = refused_by fault (read place) (item read bytes start) (λ f e. ap (item_at read) h ∙ ap (λ r. r >>= λ y. Ok (Some y)) e) told
