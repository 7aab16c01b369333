-- Texts of lists, and numbers over a denominator.
use Rattle.quast_text.proofs.Words.{◌≡◌, ◌∙◌, refl, ap, sym, append_assoc, codes, if◌then◌else◌, ℕ, ℤ, pos, negsuc, ◌≤ℤ◌, unsigned_abs, Bool, true, false, arith, List, [], ◌∷◌, ◌++◌, flat_map, ints, append-nil, signed_decimal, pos_of_dvd_of_pos, OnOk, is_err, floor_div, gcd, same_number, Component, spell_fraction, spell_fractions, spell_components, spell_denominator, spell_term, spell_component, common-IsGcd, Tree, spell_tree}
use Rattle.std.specs.Prelude.{Result, Ok, Err}
use Rattle.text_printing.specs.Printing.{Begins}

pub fractions_flat : (d : ℤ) (cs : List ℤ) → flat_map (spell_term d) cs ≡ spell_fractions d cs
fractions_flat d [] = refl
fractions_flat d (c ∷ cs) = ap (λ t. spell_term d c ++ t) (fractions_flat d cs)

pub components_flat : (cs : List Component) → flat_map spell_component cs ≡ spell_components cs
components_flat [] = refl
components_flat (c ∷ cs) = ap (λ t. spell_component c ++ t) (components_flat cs)

-- ---- lowest terms

either : (b : Bool) (text over : List ℕ) → (if b then text else text ++ over) ≡ text ++ (if b then [] else over)
either true text over = sym (append-nil text)
either false text over = refl

-- the text of a fraction is its numerator, and what stands behind that
pub fraction_parts : (c d : ℤ) → spell_fraction c d ≡ signed_decimal (floor_div c (gcd c d)) ++ spell_denominator d (gcd c d)
fraction_parts c d =
    ap (λ t. if same_number (gcd c d) d then signed_decimal (floor_div c (gcd c d)) else t) (append_assoc (signed_decimal (floor_div c (gcd c d))) (codes "/") (signed_decimal (floor_div d (gcd c d))))
    ∙ either (same_number (gcd c d) d) (signed_decimal (floor_div c (gcd c d))) (codes "/" ++ signed_decimal (floor_div d (gcd c d)))

pub gcd_positive : (c d : ℤ) → pos 1 ≤ℤ d → pos 1 ≤ℤ gcd c d
gcd_positive c (negsuc n) h = absurd (omega (arith, ints))
gcd_positive c (pos n) h =
    let p = pos_of_dvd_of_pos (common-IsGcd (unsigned_abs c) n).1 (omega (arith, ints)) in
    omega (arith, ints)

-- ---- what is written goes on from what was

pub begins_through : (a b c : List ℕ) → Begins a b → Begins b c → Begins a c
begins_through a b c p q = record { rest = p.rest ++ q.rest; is = q.is ∙ ap (λ t. t ++ q.rest) p.is ∙ append_assoc a p.rest q.rest }

pub on_ok : {X E : Type 0} (r : Result X E) (P Q : Type 0) → (P → Q) → OnOk r P → OnOk r Q
on_ok (Ok x) P Q f h = f h
on_ok (Err e) P Q f h = h

-- a text behind another
pub put_behind : {X E : Type 0} (r : Result X E) (old mid new first second : List ℕ) → mid ≡ old ++ first → OnOk r (new ≡ mid ++ second) → OnOk r (new ≡ old ++ (first ++ second))
put_behind (Ok x) old mid new first second p h = h ∙ ap (λ t. t ++ second) p ∙ append_assoc old first second
put_behind (Err e) old mid new first second p h = h

pub then_behind : (old mid new first second : List ℕ) → mid ≡ old ++ first → new ≡ mid ++ second → new ≡ old ++ (first ++ second)
then_behind old mid new first second p q = q ∙ ap (λ t. t ++ second) p ∙ append_assoc old first second

-- the text of a choice
pub choice_written : {X E : Type 0} (r : Result X E) (old m1 m2 m3 new head : List ℕ) (t a b : Tree) → head ++ spell_tree a ++ spell_tree b ++ codes ")\n" ≡ spell_tree t
    → m1 ≡ old ++ head → m2 ≡ m1 ++ spell_tree a → m3 ≡ m2 ++ spell_tree b → OnOk r (new ≡ m3 ++ codes ")\n") → OnOk r (new ≡ old ++ spell_tree t)
choice_written r old m1 m2 m3 new head t a b is p q s h =
    let first = then_behind old m1 m2 head (spell_tree a) p q in
    rw is at (put_behind r old m3 new _ _ (then_behind old m2 m3 (head ++ spell_tree a) (spell_tree b) first s) h)

pub fraction_written : (old mid new : List ℕ) (c d g : ℤ) → g ≡ gcd c d → mid ≡ old ++ signed_decimal (floor_div c g) → new ≡ mid ++ spell_denominator d g → new ≡ old ++ spell_fraction c d
fraction_written old mid new c d g is first second =
    second ∙ ap (λ t. t ++ spell_denominator d g) first ∙ append_assoc old (signed_decimal (floor_div c g)) (spell_denominator d g)
    ∙ ap (λ z. old ++ (signed_decimal (floor_div c z) ++ spell_denominator d z)) is ∙ ap (λ t. old ++ t) (sym (fraction_parts c d))

pub at_ok : {X E : Type 0} (r : Result X E) (P : Type 0) → is_err r ≡ false → OnOk r P → P
at_ok (Ok x) P e h = h
at_ok (Err x) P e h = cc
