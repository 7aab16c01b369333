-- From what a walk answers to its text.
use Rattle.tree_items.proofs.Words.{◌≡◌, refl, List, ℕ, Option, Some, None, option_map, Result, Ok, Err, IfSome, made_text, made_line, sameness_text, Answer, spell}
use Rattle.program_model.specs.Endings as model
use Rattle.pip_model.specs.ToolAgreement.{without_counts}
use Rattle.pip_model.specs.Run.{Work}
use Rattle.pip_model.specs.Tools.{Sameness}
use Rattle.pip_model.specs.Walks.{ToolRefusal, Walked, Made, Stopped}

-- a text of what is made, or the end at a refusal
module _ {A : Type 0} (text : Walked A → Result (List ℕ) model.Ending) (made : A → List ℕ) (ok : (a : A) (v : Work) → text (Made a v) ≡ Ok (made a)) (err : (e : ToolRefusal) (v : Work) → text (Stopped e v) ≡ Err (model.tool_ending e)) where
  text_ok : (w : Walked A) (a : A) → without_counts w ≡ Ok a → text w ≡ Ok (made a)
  text_ok (Made b v) a h = let same : b ≡ a = cc in rw (ok b v, same) refl
  text_ok (Stopped e v) a h = cc

  text_refused : (w : Walked A) (o : Option ToolRefusal) → IfSome o (λ e. without_counts w ≡ Err e) → IfSome (option_map model.tool_ending o) (λ f. text w ≡ Err f)
  text_refused w None h = tt
  text_refused (Made b v) (Some e) h = cc
  text_refused (Stopped f v) (Some e) h = let same : f ≡ e = cc in rw (err f v, same) refl

pub made_ok : (comment : List ℕ) (w : Walked Answer) (a : Answer) → without_counts w ≡ Ok a → made_text comment w ≡ Ok (spell comment a)
made_ok comment = text_ok (made_text comment) (spell comment) (λ a v. refl) (λ e v. refl)

pub made_refused : (comment : List ℕ) (w : Walked Answer) (o : Option ToolRefusal) → IfSome o (λ e. without_counts w ≡ Err e)
    → IfSome (option_map model.tool_ending o) (λ f. made_text comment w ≡ Err f)
made_refused comment = text_refused (made_text comment) (spell comment) (λ a v. refl) (λ e v. refl)

pub line_ok : (w : Walked Sameness) (s : Sameness) → without_counts w ≡ Ok s → made_line w ≡ Ok (sameness_text s)
line_ok = text_ok made_line sameness_text (λ s v. refl) (λ e v. refl)

pub line_refused : (w : Walked Sameness) (o : Option ToolRefusal) → IfSome o (λ e. without_counts w ≡ Err e)
    → IfSome (option_map model.tool_ending o) (λ f. made_line w ≡ Err f)
line_refused = text_refused made_line sameness_text (λ s v. refl) (λ e v. refl)
