-- Words of the contracts on pieces.
use Rattle.std.specs.Prelude.{◌≡◌, ℤ, Bool, true, false, List, length, ⊤}
use Rattle.pip_model.specs.PieceText.{pieces}
use Rattle.pip_model.specs.Tree.{leaves}
use Rattle.pip_model.specs.ToolLaws.{IsPieceAt}
use Rattle.quast.specs.Trees.{ScopedTree}
use Rattle.quast.specs.declared.answer.Answer.{Answer}
use Rattle.quast.specs.declared.answer.Answer.TheVariants as answer
use Rattle.quast_pieces.specs.declared.refusal.PiecesRefusal.{PiecesRefusal}
use Rattle.quast_pieces.specs.declared.refusal.PiecesRefusal.TheVariants as refusal

-- of these refusals Overflow says that a listed number does not fit
abbrev pub is_pieces_overflow : PiecesRefusal → Bool
is_pieces_overflow refusal.Overflow = true
is_pieces_overflow refusal.WantOfMemory = false

-- at each whole vector of the tree's width one piece alone holds, and has the tree's value; there are as many as leaves
pub record IsPartedTree (q : ScopedTree) : Type 0 where
  pub one : (u : List ℤ) → length u ≡ q.width → IsPieceAt q.tree u
  pub count : length (pieces q.tree) ≡ leaves q.tree

-- the same of an answer's tree
abbrev pub IsParted : Answer → Type 0
IsParted answer.Void = ⊤
IsParted (answer.Tree q) = IsPartedTree q
