-- What the words give, seen otherwise.
use Rattle.pip_words.proofs.Words.{◌≡◌, ◌∙◌, ap, refl, Option, None, option_map, Command, Gives, meaning_of}
use Rattle.std.specs.Prelude.{Result, Ok, Err, Some, IfOk, IfErr}
use Rattle.pip_words.specs.declared.command.Command.{Command as Given}
use Rattle.pip_words.specs.declared.refusal.WordsRefusal.{WordsRefusal}
use Rattle.pip_words.specs.declared.refusal.WordsRefusal.TheVariants as refusal

pub given_ok : (wanted is : Option Command) (r : Result Given WordsRefusal) → is ≡ wanted → Gives meaning_of wanted r
    → IfOk r (λ c. is ≡ Some (meaning_of c))
given_ok wanted is (Ok c) e h = e ∙ h
given_ok wanted is (Err f) e h = tt

pub given_usage : (wanted is : Option Command) (r : Result Given WordsRefusal) → is ≡ wanted → Gives meaning_of wanted r
    → IfErr r (λ f. f ≡ refusal.Usage → is ≡ None)
given_usage wanted is (Ok c) e h = tt
given_usage wanted is (Err refusal.Usage) e h = λ u. e ∙ h
given_usage wanted is (Err refusal.WantOfMemory) e h = λ u. cc

-- the same of what is given otherwise, and of a refusal
pub given_at : (wanted is : Option Command) (r : Result Given WordsRefusal) → is ≡ wanted → Gives meaning_of wanted r → Gives meaning_of is r
given_at wanted is (Ok c) e h = e ∙ h
given_at wanted is (Err refusal.Usage) e h = e ∙ h
given_at wanted is (Err refusal.WantOfMemory) e h = tt

pub given_refusal : (wanted : Option Command) (r : WordsRefusal) → (r ≡ refusal.Usage → wanted ≡ None) → Gives meaning_of wanted (Err r)
given_refusal wanted refusal.Usage h = h refl
given_refusal wanted refusal.WantOfMemory h = tt

-- where one is refused, so is what is made of it
pub refused_mapped : {X Y Z W : Type 0} (view : X → Y) (view' : Z → W) (f : Y → W) (wanted : Option Y) (wanted' : Option W)
    (e : WordsRefusal) → wanted' ≡ option_map f wanted → Gives view wanted (Err e) → Gives view' wanted' (Err e)
refused_mapped view view' f wanted wanted' refusal.Usage is h = is ∙ ap (option_map f) h
refused_mapped view view' f wanted wanted' refusal.WantOfMemory is h = tt
