-- Texts of lists.
use Rattle.leaf_certificate.proofs.Words.{◌≡◌, ◌∙◌, refl, ap, append_assoc, ℕ, ℤ, Bool, List, [], ◌∷◌, ◌++◌, flat_map, OnOk, Refutation, LeafProofs, spell_terms, spell_steps, spell_refutations, spell_leaves, spell_term, spell_step, spell_refutation, spell_leaf}
use Rattle.std.specs.Prelude.{Result, Ok, Err}
use Rattle.text_laws.proofs.CertificateTexts.{read_certificate-spell_first}

pub terms_flat : (ts : List (ℤ × ℤ)) → flat_map spell_term ts ≡ spell_terms ts
terms_flat [] = refl
terms_flat (t ∷ ts) = ap (λ rest. spell_term t ++ rest) (terms_flat ts)

pub steps_flat : (ss : Refutation) → flat_map spell_step ss ≡ spell_steps ss
steps_flat [] = refl
steps_flat (s ∷ ss) = ap (λ t. spell_step s ++ t) (steps_flat ss)

pub refutations_flat : (rs : List Refutation) → flat_map spell_refutation rs ≡ spell_refutations rs
refutations_flat [] = refl
refutations_flat (r ∷ rs) = ap (λ t. spell_refutation r ++ t) (refutations_flat rs)

pub leaves_flat : (shares : Bool) (ls : List LeafProofs) → flat_map (spell_leaf shares) ls ≡ spell_leaves shares ls
leaves_flat shares [] = refl
leaves_flat shares (l ∷ ls) = ap (λ t. spell_leaf shares l ++ t) (leaves_flat shares ls)

-- three texts one behind another
pub joined : {X E : Type 0} (r : Result X E) (old x y z first second new : List ℕ) → first ≡ old ++ x → second ≡ first ++ y → OnOk r (new ≡ second ++ z) → OnOk r (new ≡ old ++ (x ++ y ++ z))
joined (Err e) old x y z first second new p q h = tt
joined (Ok u) old x y z first second new p q h =
    h ∙ ap (λ t. t ++ z) (q ∙ ap (λ t. t ++ y) p) ∙ ap (λ t. t ++ z) (append_assoc old x y) ∙ append_assoc old (x ++ y) z

pub ruleset read_back = (read_certificate-spell_first)
