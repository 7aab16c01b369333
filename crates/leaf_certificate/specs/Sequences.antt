-- Values up to a closing bracket.
use Rattle.std.specs.Prelude.{ℕ, ℤ, Bool, List, length}
use Rattle.pip_model.specs.declared.Kind.TheVariants.{RightParen, RightRow}
use Rattle.pip_model.specs.Certificate.{Refutation, LeafProofs, term, step, list_of, leaf_proofs}
use Rattle.pip_model.specs.Reading.{Reads, up_to, number}

abbrev pub numbers_to_end : List ℕ → ℕ → Reads (List ℤ)
numbers_to_end bytes place = up_to bytes RightRow (number bytes) (length bytes) place

abbrev pub terms_to_end : List ℕ → ℕ → Reads (List (ℤ × ℤ))
terms_to_end bytes place = up_to bytes RightParen (term bytes) (length bytes) place

abbrev pub steps_to_end : List ℕ → ℕ → Reads Refutation
steps_to_end bytes place = up_to bytes RightParen (step bytes) (length bytes) place

abbrev pub refutations_to_end : List ℕ → ℕ → Reads (List Refutation)
refutations_to_end bytes place = up_to bytes RightParen (list_of bytes (step bytes)) (length bytes) place

abbrev pub leaves_to_end : List ℕ → Bool → ℕ → Reads (List LeafProofs)
leaves_to_end bytes shares place = up_to bytes RightParen (leaf_proofs bytes shares) (length bytes) place
