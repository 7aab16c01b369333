-- A component whose entries are numbers.
use Rattle.quast_text.proofs.Words.{◌≡◌, refl, ap₂, ℕ, zero, suc, ◌+◌, ℤ, pos, ◌*ℤ◌, true, List, [], ◌∷◌, map, Ok, Err, Result, arith, ints, LeftRow, RightRow, token, Fault, Reads, ◌>>=◌, expect, floor_div, all_fit, fractions, component, component_of, common_denominators, last_of}
use Rattle.std.specs.Prelude.{⊤}
use Rattle.pip_model.specs.declared.Kind.{Kind}
use Rattle.pip_model.specs.declared.Kind.TheVariants.{Number}
use Rattle.pip_model.specs.Tree.{Component}
use Rattle.pip_model.specs.Reading.{number_of, numbers, row}
use Rattle.pip_model.specs.TreeText.{fraction_of}

-- the number as a fraction
abbrev over_one : ℤ → ℤ × ℤ
over_one z = (z, pos 1)

-- ---- what reads numbers and fractions reads the same

abbrev IsOne : Reads ℤ → Reads (ℤ × ℤ) → Type 0
IsOne (Ok x) f = f ≡ Ok (over_one x.0, x.1)
IsOne (Err e) f = ⊤

abbrev AreWhole : Reads (List ℤ) → Reads (List (ℤ × ℤ)) → Type 0
AreWhole (Ok x) f = f ≡ Ok (map over_one x.0, x.1)
AreWhole (Err e) f = ⊤

one_whole : (kind : Kind) (start after : ℕ) → IsOne (number_of kind start after) (fraction_of kind start after)
one_whole (Number z) start after = refl
one_whole _ start after = tt

behind : (z : ℤ) (r : Reads (List ℤ)) (f : Reads (List (ℤ × ℤ))) → AreWhole r f → AreWhole (r >>= λ zs. Ok (z ∷ zs.0, zs.1)) (f >>= λ zs. Ok (over_one z ∷ zs.0, zs.1))
behind z (Ok x) f e = rw e refl
behind z (Err g) f e = tt

module _ (bytes : List ℕ) (n : ℕ) (rest : (at : ℕ) → AreWhole (numbers bytes n at) (fractions bytes n at)) where
  joined : (r : Reads ℤ) (f : Reads (ℤ × ℤ)) → IsOne r f
      → AreWhole (r >>= λ z. numbers bytes n z.1 >>= λ zs. Ok (z.0 ∷ zs.0, zs.1)) (f >>= λ z. fractions bytes n z.1 >>= λ zs. Ok (z.0 ∷ zs.0, zs.1))
  joined (Ok z) f e = rw e (behind z.0 (numbers bytes n z.1) (fractions bytes n z.1) (rest z.1))
  joined (Err g) f e = tt

all_whole : (bytes : List ℕ) (n place : ℕ) → AreWhole (numbers bytes n place) (fractions bytes n place)
all_whole bytes zero place = refl
all_whole bytes (suc n) place =
    let t = token bytes place in
    joined bytes n (all_whole bytes n) (number_of t.kind t.start t.after) (fraction_of t.kind t.start t.after) (one_whole t.kind t.start t.after)

-- ---- over the denominator 1

times_one : (z : ℤ) → z *ℤ pos 1 ≡ z
times_one z = omega (arith, ints)

ones_fit : (zs : List ℤ) → all_fit (common_denominators (pos 1) (map over_one zs)) ≡ true
ones_fit [] = refl
ones_fit (z ∷ zs) = ones_fit zs

last_one : (zs : List ℤ) → last_of (pos 1) (common_denominators (pos 1) (map over_one zs)) ≡ pos 1
last_one [] = refl
last_one (z ∷ zs) = last_one zs

same_numbers : (zs : List ℤ) → map (λ f. f.0 *ℤ floor_div (pos 1) f.1) (map over_one zs) ≡ zs
same_numbers [] = refl
same_numbers (z ∷ zs) = ap₂ (λ (x : ℤ) (xs : List ℤ). x ∷ xs) (times_one z) (same_numbers zs)

component_whole : (start : ℕ) (zs : List ℤ) → all_fit zs ≡ true → component_of start (map over_one zs) ≡ Ok (record { den = pos 1; form = zs })
component_whole start zs fit = rw (last_one zs, same_numbers zs, ones_fit zs, fit) refl

-- ---- between row brackets

abbrev IsWhole : Reads (List ℤ) → Reads Component → Type 0
IsWhole (Ok x) c = all_fit x.0 ≡ true → c ≡ Ok (record { den = pos 1; form = x.0 }, x.1)
IsWhole (Err e) c = ⊤

module _ (bytes : List ℕ) (start : ℕ) where
  closed : (zs : List ℤ) (end : Result ℕ Fault) → IsWhole (end >>= λ after. Ok (zs, after)) (end >>= λ after. component_of start (map over_one zs) >>= λ c. Ok (c, after))
  closed zs (Ok after) = λ fit. rw (component_whole start zs fit) refl
  closed zs (Err e) = tt

  between : (r : Reads (List ℤ)) (f : Reads (List (ℤ × ℤ))) → AreWhole r f
      → IsWhole (r >>= λ zs. expect bytes RightRow zs.1 >>= λ after. Ok (zs.0, after)) (f >>= λ fs. expect bytes RightRow fs.1 >>= λ after. component_of start fs.0 >>= λ c. Ok (c, after))
  between (Ok x) f e = rw e (closed x.0 (expect bytes RightRow x.1))
  between (Err g) f e = tt

  opened : (w : ℕ) (first : Result ℕ Fault)
      → IsWhole (first >>= λ at. numbers bytes (w + 1) at >>= λ zs. expect bytes RightRow zs.1 >>= λ after. Ok (zs.0, after))
      (first >>= λ at. fractions bytes (w + 1) at >>= λ fs. expect bytes RightRow fs.1 >>= λ after. component_of start fs.0 >>= λ c. Ok (c, after))
  opened w (Ok at) = between (numbers bytes (w + 1) at) (fractions bytes (w + 1) at) (all_whole bytes (w + 1) at)
  opened w (Err e) = tt

-- a row of numbers is a component over the denominator 1
pub row_component : (bytes : List ℕ) (w place : ℕ) (zs : List ℤ) (after : ℕ) → row bytes (w + 1) place ≡ Ok (zs, after) → all_fit zs ≡ true → component bytes w place ≡ Ok (record { den = pos 1; form = zs }, after)
row_component bytes w place zs after e fit =
    let whole : IsWhole (row bytes (w + 1) place) (component bytes w place) = opened bytes (token bytes place).start w (expect bytes LeftRow place) in
    (rw e at whole) fit
