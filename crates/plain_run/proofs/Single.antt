-- Lists of one number.
use Rattle.plain_run.proofs.Words.{Component, reduced, Row, row_component, ◌∙◌, ap, ap₂, refl, List, [], ◌∷◌, length, ℤ, arith, slice_index_or, ◌≡◌}

pub one_entry : (xs : List ℤ) (d : ℤ) → length xs ≡ 1 → slice_index_or xs 0 d ∷ [] ≡ xs
one_entry [] d e = absurd (omega arith)
one_entry (x ∷ []) d e = refl
one_entry (x ∷ y ∷ xs) d e = absurd (omega arith)

-- a component is that of a row whose denominator and constant form it was made of
pub component_is : {c : Component} {d : ℤ} {s : List ℤ} (R S : Row) → c ≡ reduced d s → d ≡ R.den → s ≡ R.constant → R ≡ S → c ≡ row_component S
component_is R S e f g h = e ∙ ap₂ reduced f g ∙ ap row_component h
