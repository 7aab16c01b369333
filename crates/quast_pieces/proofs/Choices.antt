-- A choice of a tree: the text of its pieces, and its listed numbers.
use Rattle.std.proofs.Common.{◌≡◌, ◌∙◌, ap, ap₂, List, ℕ, ℤ, Bool, true, ◌&&◌, ◌++◌, take, length}
use Rattle.std.specs.Prelude.{Result, Ok, Err}
use Rattle.std.proofs.Math.Bool.{and-false}
use Rattle.std.proofs.Math.Seq.{take-append_seam}
use Rattle.std.proofs.lemmas.List.Folds.{list_all-append}
use Rattle.pip_model.specs.Numbers.{fits}
use Rattle.pip_model.specs.Forms.{opposite}
use Rattle.pip_model.specs.Listed.{all_fit, opposite_listed}
use Rattle.pip_model.specs.Agreement.{IsChecked}
use Rattle.pip_model.specs.Tree.{Tree, If}
use Rattle.pip_model.specs.PieceText.{Where, pieces_listed, spell_entry}
use Rattle.walk_laws.proofs.PieceSteps.{spell_under}
use Rattle.text_printing.specs.Printing.{Appends}
use Rattle.quast_text.proofs.Spellings.{put_behind}

-- its first pieces, and behind them those of its second tree, with the path as it was
pub choice_appended : {X E : Type 0} (r : Result X E) (old mid new path now : List ℕ) (v w : List ℤ) (a b t : Tree) → t ≡ If v a b → now ≡ path → w ≡ opposite v
    → mid ≡ old ++ spell_under (path ++ spell_entry (Where v)) a → Appends (spell_under (now ++ spell_entry (Where w)) b) mid new r → Appends (spell_under path t) old new r
choice_appended r old mid new path now v w a b t is same opposed first second =
    rw is (put_behind r old mid new _ _ first (rw (same, opposed) at second))

pub choice_listed : {X E : Type 0} (r : Result X E) (over : E → Bool) (v : List ℤ) (a b t : Tree) → t ≡ If v a b → all_fit (opposite_listed v) ≡ true → all_fit (pieces_listed a) ≡ true
    → IsChecked over (pieces_listed b) r → IsChecked over (pieces_listed t) r
choice_listed {X = X} {E = E} r over v a b t is own first second = rw is (go r second)
  where
    go : (r : Result X E) → IsChecked over (pieces_listed b) r → IsChecked over (pieces_listed (If v a b)) r
    go (Ok x) h =
        list_all-append fits (opposite_listed v ++ pieces_listed a) (pieces_listed b)
        ∙ ap₂ (λ (p q : Bool). p && q) (list_all-append fits (opposite_listed v) (pieces_listed a) ∙ ap₂ (λ (p q : Bool). p && q) own first) h
    go (Err e) h = λ k.
        list_all-append fits (opposite_listed v ++ pieces_listed a) (pieces_listed b)
        ∙ ap (λ (q : Bool). all_fit (opposite_listed v ++ pieces_listed a) && q) (h k) ∙ and-false (all_fit (opposite_listed v ++ pieces_listed a))

-- what was put behind a path is cut off
pub path_back : (old text mid now cut : List ℕ) (n : ℕ) → n ≡ length old → mid ≡ old ++ text → now ≡ mid → cut ≡ take n now → cut ≡ old
path_back old text mid now cut n len put same is = is ∙ rw (len, same, put) (take-append_seam old text)
