-- A new parameter's form and divisor, read in three parts.
use Rattle.quast_text.proofs.Words.{◌≡◌, refl, ℕ, List, definition, bind_assoc, quotient_opening, closed_divisor, definition_at}

pub definition_by : (bytes : List ℕ) (w place : ℕ) → definition bytes w place ≡ definition_at bytes w place
unfolding quotient_opening closed_divisor definition_at
definition_by bytes w place = simp bind_assoc refl
