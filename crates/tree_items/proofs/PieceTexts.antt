-- The text of an answer's pieces, or its end.
use Rattle.tree_items.proofs.Words.{◌≡◌, refl, false, IsTrue, Err, IfSome, IsFalse, all_fit, pieces_text, Commented, told, pieces_ending}
use Rattle.pip_model.specs.PieceText.{answer_listed}
use Rattle.quast_pieces.specs.Pieces.{is_pieces_overflow}
use Rattle.quast_pieces.specs.declared.refusal.PiecesRefusal.{PiecesRefusal}
use Rattle.quast_pieces.specs.declared.refusal.PiecesRefusal.TheVariants as refusal

pub pieces_refused : (e : PiecesRefusal) (s : Commented)
    → (IsTrue (is_pieces_overflow e) → IsFalse (all_fit (answer_listed s.answer)))
    → IfSome (told (pieces_ending e)) (λ f. pieces_text s ≡ Err f)
pieces_refused refusal.Overflow s h = let unfit : all_fit (answer_listed s.answer) ≡ false = h refl in rw unfit refl
pieces_refused refusal.WantOfMemory s h = tt
