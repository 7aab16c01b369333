-- What is known of a difference of two answers.
use Rattle.same.proofs.Words.{ℕ, List, ℤ, IsSameness, sameness_of, DiffersOver}
use Rattle.pip_model.specs.Contexts.{IsContext}
use Rattle.pip_model.specs.Tree as model
use Rattle.run_laws.proofs.ContextRight.{scope_of}
use Rattle.same.specs.declared.sameness.Sameness.{Sameness}
use Rattle.same.specs.declared.sameness.Sameness.TheVariants as sameness

-- a difference is at a vector over the rows' places
pub over_rows : (m : ℕ) (rows : List (List ℤ)) (a b : model.Answer) (s : Sameness) → IsContext m rows → IsSameness m rows a b (sameness_of s) → DiffersOver m s
over_rows m rows a b sameness.Same context h = tt
over_rows m rows a b (sameness.Differ p) context h = (scope_of m rows p context h.0).width
