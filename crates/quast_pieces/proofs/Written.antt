-- The text of an answer's pieces by the text of its tree's, and what its tree's pieces are.
use Rattle.std.proofs.Common.{◌≡◌, ◌∙◌, sym, ap, ap₂, subst, List, [], ℕ}
use Rattle.std.specs.Prelude.{Result, Ok, Err, OnOk}
use Rattle.std.proofs.lemmas.List.{append-nil}
use Rattle.pip_model.specs.Tree.{Tree}
use Rattle.pip_model.specs.PieceText.{spell_answer_pieces}
use Rattle.walk_laws.proofs.PieceLaws.{pieces-leaves, pieces-part}
use Rattle.walk_laws.proofs.PieceSteps.{spell_under, spell_under-pieces}
use Rattle.quast.specs.Trees.{ScopedTree, IsQuast}
use Rattle.quast.specs.Answers.{answer_of}
use Rattle.quast.specs.declared.answer.Answer.{Answer}
use Rattle.quast.specs.declared.answer.Answer.TheVariants as answer
use Rattle.text_printing.specs.Printing.{Appends, Begins}
use Rattle.quast_pieces.specs.Pieces.{IsParted}

-- from the root, where the path is empty
pub pieces_written : {X E : Type 0} (old new path : List ℕ) (r : Result X E) (a : Answer) (q : ScopedTree) (t : Tree) → a ≡ answer.Tree q → path ≡ [] → t ≡ q.tree
    → Appends (spell_under path t) old new r → Appends (spell_answer_pieces (answer_of a)) old new r
pieces_written old new path r a q t is root tree h =
    let P : List ℕ → Type 0 = λ text. Appends text old new r in
    subst P (ap₂ (λ (p : List ℕ) (s : Tree). spell_under p s) root tree ∙ spell_under-pieces q.tree ∙ sym (ap (λ b. spell_answer_pieces (answer_of b)) is)) h

-- a tree that is built is parted by its pieces
pub tree_parted : (a : Answer) (q : ScopedTree) → a ≡ answer.Tree q → IsQuast q → IsParted a
tree_parted a q is h =
    rw is (record { one = λ u l. pieces-part q.tree q.width u h.well_formed.scoped l; count = pieces-leaves q.tree })

pub at_ok : {X E : Type 0} (r : Result X E) (P : Type 0) → P → OnOk r P
at_ok (Ok x) P h = h
at_ok (Err e) P h = tt

-- what is left as it was goes on from itself
pub begins_same : (a : List ℕ) → Begins a a
begins_same a = record { rest = []; is = sym (append-nil a) }
