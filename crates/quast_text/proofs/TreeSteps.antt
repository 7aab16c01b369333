-- What a tree is read as, by its `(` and the word behind it.
use Rattle.quast_text.proofs.Words.{◌≡◌, ◌∙◌, refl, sym, ap, ℕ, zero, ◌+◌, suc, ◌-◌, ◌<◌, arith, sub-one, Ok, Err, List, [], ◌∷◌, Option, Some, None, IfSome, LeftParen, Tree, Bottom, Leaf, Component, most_components, Fault, TooNested, Reads, ◌>>=◌, expect, Head, Ends, Lists, Chooses, Defines, head, room_for, behind_head, tree_by, tree, component, components, with_front, opening, components_behind, list_at, choice_at, define_at, NewParm, bind_assoc, IsRead}
use Rattle.std.specs.Prelude.{Result, ℤ}
use Rattle.quast_text.proofs.Definitions.{definition_by}

-- the tree by its opening
abbrev behind : List ℕ → ℕ → (ℕ → ℕ → Reads Tree) → ℕ → Head × ℕ → Reads Tree
behind bytes room subtree w h = room_for room h.0 >>= λ kind. behind_head bytes subtree w kind h.1

opened : (bytes : List ℕ) (room : ℕ) (subtree : ℕ → ℕ → Reads Tree) (w p : ℕ) → tree_by bytes room subtree w p ≡ (opening bytes p >>= behind bytes room subtree w)
opened bytes room subtree w p = sym (bind_assoc (expect bytes LeftParen p) (λ first. head bytes first) (behind bytes room subtree w))

pub tree_fault : (bytes : List ℕ) (n w p : ℕ) (e : Fault) → opening bytes p ≡ Err e → tree bytes n w p ≡ Err e
tree_fault bytes zero w p e h = opened bytes 0 (λ v after. Err TooNested) w p ∙ rw h refl
tree_fault bytes (suc n) w p e h = opened bytes (suc n) (λ v after. tree bytes n v after) w p ∙ rw h refl

-- a refusal, for a fault if it has one
pub tree_refused : (fault : Option Fault) (bytes : List ℕ) (n w p : ℕ) → IfSome fault (λ f. opening bytes p ≡ Err f) → IfSome fault (λ f. tree bytes n w p ≡ Err f)
tree_refused None bytes n w p h = tt
tree_refused (Some f) bytes n w p h = tree_fault bytes n w p f h

pub tree_bottom : (bytes : List ℕ) (n w p q : ℕ) → opening bytes p ≡ Ok (Ends, q) → tree bytes n w p ≡ Ok (Bottom, q)
tree_bottom bytes zero w p q h = opened bytes 0 (λ v after. Err TooNested) w p ∙ rw h refl
tree_bottom bytes (suc n) w p q h = opened bytes (suc n) (λ v after. tree bytes n v after) w p ∙ rw h refl

abbrev as_leaf : List Component × ℕ → Reads Tree
as_leaf cs = Ok (Leaf cs.0, cs.1)

abbrev leaf_with : Component → List Component × ℕ → Reads Tree
leaf_with c cs = Ok (Leaf (c ∷ cs.0), cs.1)

front_leaf : (c : Component) (rest : Reads (List Component)) → (rest >>= leaf_with c) ≡ (with_front (c ∷ []) rest >>= as_leaf)
front_leaf c (Ok cs) = refl
front_leaf c (Err e) = refl

leaf_by : (r : Reads Component) (rest : ℕ → Reads (List Component)) → (r >>= λ c. rest c.1 >>= leaf_with c.0) ≡ (r >>= λ c. with_front (c.0 ∷ []) (rest c.1) >>= as_leaf)
leaf_by (Ok c) rest = front_leaf c.0 (rest c.1)
leaf_by (Err e) rest = refl

pub tree_list : (bytes : List ℕ) (n w p q : ℕ) → opening bytes p ≡ Ok (Lists, q) → tree bytes n w p ≡ list_at bytes w q
unfolding list_at components_behind
tree_list bytes zero w p q h = opened bytes 0 (λ v after. Err TooNested) w p ∙ rw h (leaf_by (component bytes w q) (λ at. components bytes w (most_components - 1) at))
tree_list bytes (suc n) w p q h = opened bytes (suc n) (λ v after. tree bytes n v after) w p ∙ rw h (leaf_by (component bytes w q) (λ at. components bytes w (most_components - 1) at))

pub tree_choice : (bytes : List ℕ) (n w p q : ℕ) → 0 < n → opening bytes p ≡ Ok (Chooses, q) → tree bytes n w p ≡ choice_at bytes (n - 1) w q
unfolding choice_at
tree_choice bytes zero w p q k h = absurd (omega arith)
tree_choice bytes (suc n) w p q k h = opened bytes (suc n) (λ v after. tree bytes n v after) w p ∙ rw (h, sub-one) refl

pub tree_define : (bytes : List ℕ) (n w p q : ℕ) → 0 < n → opening bytes p ≡ Ok (Defines, q) → tree bytes n w p ≡ define_at bytes (n - 1) w q
unfolding define_at
tree_define bytes zero w p q k h = absurd (omega arith)
tree_define bytes (suc n) w p q k h =
    opened bytes (suc n) (λ v after. tree bytes n v after) w p ∙ rw (h, sub-one) (ap (λ (r : Reads (List ℤ × ℤ)). r >>= λ d. tree bytes n (w + 1) d.1 >>= λ a. Ok (NewParm d.0.0 d.0.1 a.0, a.1)) (definition_by bytes w q))

-- what is read from a place on is read from one before it, where the definition goes on there
pub read_later : {X Y E : Type 0} (view : X → Y) (fault : E → Option Fault) (bytes : List ℕ) (place at : ℕ) (r : Result (X × ℕ) E) (rest whole : Reads Y)
    → place < at → whole ≡ rest → IsRead view fault bytes at r rest → IsRead view fault bytes place r whole
read_later view fault bytes place at (Ok x) rest whole low is h = (is ∙ h.0, omega (arith, low, h.1), h.2)
read_later view fault bytes place at (Err e) rest whole low is h = rw is h
